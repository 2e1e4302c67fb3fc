-- Why the words of a client are the fields of its parts.
mod Words
