-- Store frames and answers as lines: what the contracts of `frame_reader`, `answer_writer` and
-- `lines` cite.
pub mod Limits
pub mod StoreFrames
pub mod Answers
