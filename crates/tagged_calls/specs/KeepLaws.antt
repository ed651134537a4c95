-- A call that writes goes on from a header as is known of it.
use Rattle.std.specs.Prelude.{ℕ, nat_lt, if◌then◌else◌}
use Rattle.std.proofs.Common.{◌≡◌, refl, sym, ap, subst, ◌∙◌, Bool, true, false, None}
use Rattle.object_headers.specs.declared.header.Header.{Header}
use Rattle.object_headers.specs.Headers.{header_at}
use Rattle.barriers.specs.declared.spot.Spot.{Spot}
use Rattle.barriers.specs.States.{State, Absent, Plain, Kept, Tagged, Wide, Moving, Underway, Forward, Dead}
use Rattle.barriers.specs.Spaces.{Here}
use Rattle.barriers.specs.Says.{IsChange}
use Rattle.barriers.specs.Knowns.{Task, Reads, Writes, Exchanges, Known, Keeps}
use Rattle.barriers.specs.Kits.{IsHeaderWord}
use Rattle.barriers.specs.PlainCalls.{no_field, where_field}
use Rattle.tagged_calls.specs.declared.location.Keep.{Keep}
use Rattle.tagged_calls.specs.declared.location.Location.{Location}
use Rattle.tagged_calls.specs.declared.location.Location.TheVariants as location
use Rattle.tagged_calls.specs.Locations.{keep_of, location_in, by_location}
use Rattle.tagged_calls.specs.LocationLaws.{location_for, location_found, header_found, tagged_found, IsKeep, keep_found}
use Rattle.tagged_calls.specs.TaggedCalls.{tagged_of, keeps_first, by_kept, by_header}

first_keeps : (s : Spot) (t : Task) (tagged : Header) → IsChange t → Keeps s t tagged ≡ keeps_first s t tagged
first_keeps s Reads tagged changes = absurd changes
first_keeps s (Writes word) tagged changes = refl
first_keeps s (Exchanges expected word) tagged changes = refl

-- of machines that are known so, which exchange the header, or go on where it says that the word is
module _ {M : Type 0} (known : M → Known) (For : M → Type 0) (keep : Keep → M) (place : Location → M) (to_wide : Spot → Task → ℕ → Known) (s : Spot) (t : Task) (changes : IsChange t)
    (x : Here) (n : ℕ) (found : IsHeaderWord None s.birth x.state x.colour x.len n) where
  abbrev Becomes : M → Known → Type 0
  Becomes m k = (known m ≡ k) × For m

  module _ (keeps : IsKeep s (keep_of n) → Becomes (keep (keep_of n)) (Keeps s t (header_at n))) (placed : Becomes (place (location_in s n)) (where_field s t x.len (by_kept to_wide s t x.state))) where
    there : location_in s n ≡ location_for s n x.state
    there = location_found None s.birth x.state x.colour x.len n found s

    placed_as : (y : State) → x.state ≡ y → Becomes (place (location_for s n y)) (where_field s t x.len (by_kept to_wide s t y))
    placed_as y is =
        subst (λ (z : State). Becomes (place (location_for s n z)) (where_field s t x.len (by_kept to_wide s t z))) is
        (subst (λ (l : Location). Becomes (place l) (where_field s t x.len (by_kept to_wide s t x.state))) there placed)

    tagged_so : (b : Bool) → x.state ≡ Tagged → nat_lt s.field x.len ≡ b → Becomes (if b then keep (keep_of n) else place (location.Tagged (keep_of n))) (if b then keeps_first s t (tagged_of s x.colour x.len) else no_field s t x.len)
    tagged_so true is has =
        let tagged = subst (λ (y : State). IsHeaderWord None s.birth y x.colour x.len n) is found in
        let so = keeps (keep_found s x.colour x.len n tagged has) in
        (so.0 ∙ (ap (Keeps s t) (tagged_found None s x.colour x.len n tagged) ∙ first_keeps s t (tagged_of s x.colour x.len) changes), so.1)
    tagged_so false is has =
        let so = placed_as Tagged is in
        (so.0 ∙ ap (λ (b : Bool). if b then by_kept to_wide s t Tagged else no_field s t x.len) has, so.1)

    header_len : (let h = header_at n in h.len) ≡ x.len
    header_len = ap (λ (h : Header). h.len) (header_found None s.birth x.state x.colour x.len n found) ∙ found.len_is

    by_state : (y : State) → x.state ≡ y → Becomes (by_location keep place s n (location_for s n y)) (where_field s t x.len (by_header to_wide s t y x.colour x.len))
    by_state Tagged is =
        subst (λ (l : ℕ). Becomes (if nat_lt s.field l then keep (keep_of n) else place (location.Tagged (keep_of n))) (where_field s t x.len (keeps_first s t (tagged_of s x.colour x.len)))) (sym header_len)
        (tagged_so (nat_lt s.field x.len) is refl)
    by_state Absent is = placed_as Absent is
    by_state Plain is = placed_as Plain is
    by_state Kept is = placed_as Kept is
    by_state (Wide wide) is = placed_as (Wide wide) is
    by_state (Moving to) is = placed_as (Moving to) is
    by_state Underway is = placed_as Underway is
    by_state (Forward to) is = placed_as (Forward to) is
    by_state Dead is = placed_as Dead is

    -- by the header that it loaded
    pub header_goes : Becomes (by_location keep place s n (location_in s n)) (where_field s t x.len (by_header to_wide s t x.state x.colour x.len))
    header_goes =
        subst (λ (l : Location). Becomes (by_location keep place s n l) (where_field s t x.len (by_header to_wide s t x.state x.colour x.len))) (sym there)
        (by_state x.state refl)
