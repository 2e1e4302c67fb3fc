-- `judge::search::holds_at` meets its contract: a search over the 64 items.
use Rattle.std.proofs.Common.{ap, ◌∙◌, ◌&&◌, rules, tests}
use Rattle.itemset.specs.Set.{has}
use Rattle.log_format.specs.Log.{shown}
use Rattle.log_format.proofs.Ranges.{any-numbers}
use Rattle.judge_frames.specs.Cut.{frames_in}
use Rattle.judge.specs.Search.{finding_of}
use Rattle.judge.proofs.Searching.{holds-search}
use Rattle.judge.proofs.search.holds_at.Goals as goal

pub returns : goal.returns
returns c =
    let a = c.args in
    let frames = frames_in a.writes.frames.bytes.now a.writes.frames.starts.now a.n in
    any-numbers 64
    (λ k. has c.shown-items.result k && finding_of a.finding frames a.line k) _
    c.any.result (cc) c.any.ensures.ran (λ x b q k. search (rules, tests))
    ∙ holds-search a.writes.frames.bytes.now a.writes.frames.starts.now a.n a.line _ (finding_of a.finding) c.requires.2
    (c.shown-items.ensures ∙ ap shown c.frame.ensures)
