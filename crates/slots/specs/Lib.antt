-- How one more joins the stored versions or the messages in flight.
pub mod Room
