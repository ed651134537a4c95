-- The header of an object by its state, colour, len and birth number.
use Rattle.std.proofs.Common.{◌≡◌, ◌≢◌, ℕ, ◌<◌, ◌≤◌, ◌^◌, refl, arith, ap, ◌∙◌}
use Rattle.object_headers.specs.declared.header.Colour.{Colour}
use Rattle.object_headers.specs.Headers.{IsHeader, header_at}
use Rattle.object_headers.specs.HeaderLaws.{header_at-word_of_header}
use Rattle.handshakes.specs.Follows.{place_by}
use Rattle.barriers.specs.States.{State, Absent, Plain, Kept, Tagged, Wide, Moving, Underway, Forward, IsHome, IsLive}
use Rattle.barriers.specs.Says.{header_by, head_word, IsWritten}

pub written_there : (x : State) → IsWritten x → x ≢ Absent
written_there x h e = grind (arith, h, e)

pub live_written : (x : State) → IsLive x → IsWritten x
live_written x h = grind (arith, h)

pub live_there : (x : State) → IsLive x → x ≢ Absent
live_there x h e = grind (arith, h, e)

pub home_there : (x : State) → IsHome x → x ≢ Absent
home_there x h e = grind (arith, h, e)

pub home_live : (x : State) → IsHome x → IsLive x
home_live x h = grind (arith, h)

pub live_laid : (x : State) → IsLive x → x ≢ Underway
live_laid x h e = grind (arith, h, e)

module _ (c : Colour) (len birth : ℕ) where
  pub header_colour : (x : State) → x ≢ Absent → (let h = header_by x c len birth in h.colour) ≡ c
  header_colour x h = grind (arith, h)

  pub header_len : (x : State) → x ≢ Absent → (let h = header_by x c len birth in h.len) ≡ len
  header_len x h = grind (arith, h)

  pub header_birth : (x : State) → x ≢ Absent → (let h = header_by x c len birth in h.birth) ≡ birth
  header_birth x h = grind (arith, h)

  -- a new object's has a word, and Kept's where Tagged's has
  pub plain_fits : len ≤ 30 → 0 < birth → birth < 2 ^ 24 → IsHeader (header_by Plain c len birth)
  plain_fits few born low = record { len = few; birth = low; target = omega arith; state = (born, refl) }

  -- an object has a birth number
  pub home_born : (x : State) → IsHome x → IsHeader (header_by x c len birth) → (0 < birth) × (birth < 2 ^ 24)
  home_born Plain h f = (f.state.0, f.birth)
  home_born Kept h f = (f.state.0, f.birth)
  home_born Tagged h f = (f.state.0, f.birth)
  home_born (Wide w) h f = (f.state, f.birth)
  home_born (Moving t) h f = (f.state, f.birth)
  home_born x h f = absurd h

  pub kept_fits : IsHeader (header_by Tagged c len birth) → IsHeader (header_by Kept c len birth)
  kept_fits h = record { len = h.len; birth = h.birth; target = h.target; state = h.state }

  -- the object's place, read off the word at an address
  pub place_of_home : (x : State) (at n : ℕ) → IsHome x → IsHeader (header_by x c len birth) → n ≡ head_word x c len birth → place_by (header_at n) at ≡ at
  place_of_home x at n h f e = ap (λ y. place_by (header_at y) at) e ∙ (ap (λ y. place_by y at) (header_at-word_of_header (header_by x c len birth) f) ∙ home_place x h) where
    home_place : (x : State) → IsHome x → place_by (header_by x c len birth) at ≡ at
    home_place x h = grind (arith, h)

  pub place_of_forward : (to at n : ℕ) → IsHeader (header_by (Forward to) c len birth) → n ≡ head_word (Forward to) c len birth → place_by (header_at n) at ≡ to
  place_of_forward to at n f e = ap (λ y. place_by (header_at y) at) e ∙ ap (λ y. place_by y at) (header_at-word_of_header (header_by (Forward to) c len birth) f)
