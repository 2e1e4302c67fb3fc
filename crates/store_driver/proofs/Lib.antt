-- The proofs of `store_driver`, and the laws that they share.
mod Turning
