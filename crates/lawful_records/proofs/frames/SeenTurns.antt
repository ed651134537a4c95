-- A turn that all others see leaves links, sides and calls to them.
use Rattle.barriers.specs.Spaces.{Space}
use Rattle.barriers.specs.CallTurns.{Seen}
use Rattle.barriers.specs.Cycles.{Cycle}
use Rattle.barriers.specs.Objects.{AreObjects}
use Rattle.barriers.specs.ProtocolLaws.{ProtocolLaws}
use Rattle.barriers.specs.Protocols.{Protocol}
use Rattle.barriers.proofs.objects.Seen.{holds_goes, side_stays, call_stays}
use Rattle.lawful_records.specs.Frames.{SeenBy}

pub seen_by_others : (P : Protocol) (L : ProtocolLaws P) (c : Cycle) (s t : Space) → AreObjects P c s → Seen P c s t → SeenBy P c s t
seen_by_others P L c s t objects seen = record { holds = holds_goes P L c s t objects seen; side = side_stays P L c s t objects seen; call = call_stays P L c s t objects seen; heads = λ at live. record { live = seen.live at live; birth = seen.birth at live; len = seen.len at live; colour = seen.colour at live } }
