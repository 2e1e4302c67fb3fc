use native.Mathlib.Omega.{arith}
use Rattle.check_stamps.proofs.Truncated.{held-of}
use Rattle.check_messages.proofs.Told.{word-ready, kind-read, message-read, message-tested}
use Rattle.check_messages.proofs.Told.{message-inside}
use Rattle.check_messages.proofs.kinds.good_message.Goals as goal

pub message_word-requires : goal.message_word-requires
message_word-requires c =
    word-ready _ (held-of _ _ _ c.args.looks.now.wholes.stamps.held).valid _ c.requires 0
    (omega arith)

pub message_word-requires-2 : goal.message_word-requires-2
message_word-requires-2 c =
    word-ready _ (held-of _ _ _ c.args.looks.now.wholes.stamps.held).valid _ c.requires 1
    (omega arith)

pub message_word-requires-3 : goal.message_word-requires-3
message_word-requires-3 c =
    word-ready _ (held-of _ _ _ c.args.looks.now.wholes.stamps.held).valid _ c.requires 2
    (omega arith)

pub message_word-requires-4 : goal.message_word-requires-4
message_word-requires-4 c =
    word-ready _ (held-of _ _ _ c.args.looks.now.wholes.stamps.held).valid _ c.requires 3
    (omega arith)

pub message_word-requires-5 : goal.message_word-requires-5
message_word-requires-5 c =
    word-ready _ (held-of _ _ _ c.args.looks.now.wholes.stamps.held).valid _ c.requires 4
    (omega arith)

pub message_word-requires-6 : goal.message_word-requires-6
message_word-requires-6 c =
    word-ready _ (held-of _ _ _ c.args.looks.now.wholes.stamps.held).valid _ c.requires 5
    (omega arith)

pub message_word-requires-7 : goal.message_word-requires-7
message_word-requires-7 c =
    word-ready _ (held-of _ _ _ c.args.looks.now.wholes.stamps.held).valid _ c.requires 6
    (omega arith)

pub message_word-requires-8 : goal.message_word-requires-8
message_word-requires-8 c =
    word-ready _ (held-of _ _ _ c.args.looks.now.wholes.stamps.held).valid _ c.requires 7
    (omega arith)

pub good_words-requires : goal.good_words-requires
good_words-requires c =
    let valid = (held-of _ _ _ c.args.looks.now.wholes.stamps.held).valid in
    let kind = kind-read _ valid c.args.i c.requires c.message_word.ensures in (
      kind.0,
      kind.1,
      message-inside _ valid c.args.i c.requires (message-read _ c.args.i
          c.message_word.ensures
          c.message_word-2.ensures
          c.message_word-3.ensures
          c.message_word-4.ensures
          c.message_word-5.ensures
          c.message_word-6.ensures
          c.message_word-7.ensures
          c.message_word-8.ensures),
    )

pub returns : goal.returns
returns c =
    message-tested _ c.args.i
    c.message_word.ensures
    c.message_word-2.ensures
    c.message_word-3.ensures
    c.message_word-4.ensures
    c.message_word-5.ensures
    c.message_word-6.ensures
    c.message_word-7.ensures
    c.message_word-8.ensures
    c.good_words.ensures
