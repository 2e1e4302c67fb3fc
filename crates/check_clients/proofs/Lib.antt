-- Why what is read of a client is what a check asks of it.
mod Clients
