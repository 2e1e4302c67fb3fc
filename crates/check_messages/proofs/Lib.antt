-- Why the items met are those that have a message, and what each kind of message tells.
mod Seen
mod Told
