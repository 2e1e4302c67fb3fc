-- Laws that the stored versions and the messages in flight share: runs of words, lists held place
-- by place, and one more at the end.
pub mod Runs
pub mod Each
pub mod SameLists
pub mod EncodesAppend
pub mod PastLists
pub mod Chosen
pub mod EncodesRoom
pub mod ReadBack
