use Rattle.layout.specs.Decode.{tables_of}
use Rattle.check_block.proofs.Whole.{all_sound, clients-are}
use Rattle.check_block.proofs.is_sound.Goals as goal

pub returns : goal.returns
returns c =
    all_sound (tables_of _) _ (clients-are _) c.good_entries.ensures c.holders.ensures
    c.good_clients.ensures c.good_messages.ensures
