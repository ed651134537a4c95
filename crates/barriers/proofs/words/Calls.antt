-- What a call's step relies on, of what holds of the objects and of the call; and that words which hold fit.
use Rattle.std.proofs.Common.{◌≡◌, ◌≢◌, ℕ, Some, arith, ap, sym, ◌∙◌}
use Rattle.heap_words.specs.Layouts.{Sizes, IsLayout}
use Rattle.heap_words.specs.PlaceLaws.{words_of-bound}
use Rattle.heap_words.specs.declared.field_word.FieldWord.TheVariants.{Link}
use Rattle.heap_words.specs.FieldWords.{IsFieldWord}
use Rattle.barriers.specs.declared.spot.Spot.{Spot}
use Rattle.barriers.specs.Spaces.{Space, Holds}
use Rattle.barriers.specs.Cycles.{Cycle, Side}
use Rattle.barriers.specs.Knowns.{Known, Follows, Over, at_field, spot_of, copy_of, wide_of}
use Rattle.barriers.specs.Objects.{IsCall}
use Rattle.barriers.specs.Protocols.{Protocol}
use Rattle.barriers.specs.Rows.{Rows}
use Rattle.barriers.specs.Says.{Notices, IsWritten, Says, IsAtWord}
use Rattle.barriers.proofs.words.Headers.{live_there, header_birth}
use Rattle.barriers.proofs.words.Found.{header_inside}

-- the field that a machine is at is its call's
pub spot_is : (k : Known) (z : Spot) → at_field k ≡ Some z → spot_of k ≡ z
spot_is (Follows s t f) z e = absurd (cc e)
spot_is (Over s t end) z e = absurd (cc e)
spot_is k z e = cc e

module _ (P : Protocol) (c : Cycle) (s : Space) (side : Side) (k : Known) (call : IsCall P c s side k)
    (copy : (to : ℕ) → copy_of k ≡ Some to → (to ≡ s.to (spot_of k).at) × IsWritten (s.state to) × (s.len to ≡ s.len (spot_of k).at))
    (wide : (w : ℕ) → wide_of k ≡ Some w → (w ≡ s.wide (spot_of k).at) × (w ≢ 0)) where
  pub at_word : (z : Spot) → at_field k ≡ Some z → IsAtWord s k
  at_word z e =
      let same = spot_is k z e in
      let at : at_field k ≡ Some (spot_of k) = e ∙ ap Some (sym same) in
      record {
        live = (call.holds (spot_of k) at).1;
        birth = (call.holds (spot_of k) at).0;
        place = call.place (spot_of k) at;
        inside = call.inside (spot_of k) at;
        head = call.head;
        copy = copy;
        wide = wide;
      }

-- a link that holds fits a word
pub holds_fits : (l : Sizes) (m : ℕ → ℕ) (s : Space) (n : Notices) → Rows l s.state s.len s.ends s.region → Says l m s n → IsLayout l → (birth at : ℕ) → Holds s birth at → IsFieldWord (Link birth at)
holds_fits l m s n rows says il birth at h =
    let there = live_there (s.state at) h.1 in
    let low = header_inside l m s n rows says at h.1 in
    let few = words_of-bound l il in
    let fits = says.objects.header_fits at there in
    let born = header_birth (s.colour at) (s.len at) (s.birth at) (s.state at) there in
    let less = fits.birth in
    let same = h.0 in
    (omega (arith, born, less, same), omega (arith, low, few))
