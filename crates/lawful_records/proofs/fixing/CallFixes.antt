-- A call whose links lead to homes goes on so.
use Rattle.std.proofs.Common.{inl, inr, ◌≡◌, ℕ, ◌⊎◌, true, Option, Some, None, refl, sym, ap, ◌∙◌, subst}
use Rattle.heap_words.specs.declared.field_word.FieldWord.{FieldWord}
use Rattle.heap_words.specs.declared.field_word.FieldWord.TheVariants.{Link}
use Rattle.handshakes.specs.declared.follow.FollowMachine.TheVariants as follow
use Rattle.wide_objects.specs.Statuses.{InOriginal}
use Rattle.barriers.specs.declared.spot.Spot.{Spot}
use Rattle.barriers.specs.Accesses.{found_in, known_after}
use Rattle.barriers.specs.CallCloses.{IsTasked, IsClosed}
use Rattle.barriers.specs.CallTurns.{CallStep}
use Rattle.barriers.specs.Cycles.{Cycle, Side}
use Rattle.barriers.specs.CycleLaws.{CycleLaws}
use Rattle.barriers.specs.Events.{IsStill}
use Rattle.barriers.specs.Knowns.{Task, Reads, Writes, Exchanges, Known, Checks, Loads_header, Keeps, Loads, Stores, Swaps, Loads_again, Loads_wide, Swaps_wide, Loads_late, Loads_address, Loads_copy, Stores_copy, Swaps_copy, Follows, Over, Finds, at_field, has_field, copy_of, spot_of, task_of, word_in, hand_of, word_ended, writes_yet, found_ending, finds}
use Rattle.barriers.specs.Objects.{HasLens, AreObjects, IsSide, IsCall}
use Rattle.barriers.specs.PlainCallLaws.{hand_at}
use Rattle.barriers.specs.Protocols.{Protocol, OnHand, From, word_found}
use Rattle.barriers.specs.ProtocolLaws.{ProtocolLaws}
use Rattle.barriers.specs.Spaces.{Space, Here, here, zone, Original, Copied, place_word, copy_word, held}
use Rattle.barriers.specs.Stances.{Stance, Fix}
use Rattle.barriers.specs.States.{State, Plain, Kept, Tagged, IsHome, On}
use Rattle.barriers.proofs.objects.Base.{on_goes, hand_goes, home_live}
use Rattle.barriers.proofs.objects.Calls.{call_step}
use Rattle.lawful_records.specs.Fixing.{Names, settled, NamesHomes}
use Rattle.lawful_records.proofs.fixing.Calm.{IsCalm}

-- ---- words in hand

-- a call that has closed as it is to close exchanges only where it writes
tasked_by : (acked : Stance) (k : Known) → IsClosed acked k → IsTasked k
tasked_by acked (Follows z t m) is = tt
tasked_by acked (Over z t end) is = tt
tasked_by acked k is = is

pub settled_at : (k : Known) (z : Spot) → at_field k ≡ Some z → settled k ≡ hand_of k
settled_at (Follows y t m) z at = absurd (let gone : None ≡ Some z = at in cc)
settled_at k z at = refl

-- the word that it will yet write is settled
pub yet_settled : (k : Known) (w : FieldWord) → writes_yet k ≡ Some w → settled k ≡ Some w
yet_settled (Follows z t m) w e = absurd (let gone : None ≡ Some w = e in cc)
yet_settled (Over z t end) w e = absurd (let gone : None ≡ Some w = e in cc)
yet_settled k w e = e

never : (Q : ℕ → ℕ → Type 0) (b a : ℕ) → ⊥ → Q b a
never Q b a none = absurd none

still_zone : (mark : Option FieldWord) (x : State) (o : FieldWord) (u : _) → IsStill x → zone mark x o u ≡ Original
still_zone mark Plain o u still = refl
still_zone mark Kept o u still = refl
still_zone mark Tagged o u still = refl
still_zone mark x o u still = absurd still

still_place : (mark : Option FieldWord) (x : Here) (copy : FieldWord) → zone mark x.state x.word x.status ≡ Original → place_word mark x copy ≡ x.word
still_place mark x copy e = rw e refl

-- the word of a link that was followed leads to a home where the link does
pub followed_names : (s : Space) (z : Spot) (t : Task) (birth at : ℕ) → Names s birth at → NamesHomes s (Over z t (found_ending t (Link birth at)))
followed_names s z Reads birth at names = record { at = λ y e. absurd (let gone : None ≡ Some y = e in cc); hand = names }
followed_names s z (Writes word) birth at names = record { at = λ y e. absurd (let gone : None ≡ Some y = e in cc); hand = tt }
followed_names s z (Exchanges expected word) birth at names = record { at = λ y e. absurd (let gone : None ≡ Some y = e in cc); hand = names }

module _ (P : Protocol) (L : ProtocolLaws P) (C : CycleLaws P) (c : Cycle) (s : Space) (side : Side) (k : Known) (objects : AreObjects P c s) (lens : HasLens s) (its_side : IsSide P c s side) (call : IsCall P c s side k) (at : at_field k ≡ Some (spot_of k)) where
  made : CallStep P c s side k
  made = call_step P L c s side k (spot_of k) at objects lens its_side call

  abbrev next : Known
  next = known_after P c s side k

  abbrev z : Spot
  z = spot_of k

  abbrev x : Here
  x = here s z.at z.field

  abbrev found : Finds
  found = found_in c s k

  closed : IsTasked k → IsClosed side.acked next
  closed tasked = L.calls.closes side.acked side.own k z found at tasked

  pub tasked_then : IsTasked k → IsTasked next
  tasked_then tasked = tasked_by side.acked next (closed tasked)

  module _ (names : NamesHomes s k) where
    home : IsHome (s.state z.at)
    home = (names.at z at).1

    -- ---- what it finds where all links lead to homes

    module _ (calm : IsCalm s) where
      still : IsStill (s.state z.at)
      still = calm.still z.at home

      original : zone c.mark x.state x.word x.status ≡ Original
      original = still_zone c.mark x.state x.word x.status still

      word_names : has_field k ≡ true → On (Names s) x.word
      word_names has =
          let inside = call.inside z at has in
          subst (On (Names s)) (objects.placed z.at z.field home inside ∙ still_place c.mark x (copy_word s z.at z.field) original) (calm.fields z.at z.field home inside)

      status_names : has_field k ≡ true → On (Names s) (held x.status)
      status_names has =
          let narrow : x.status ≡ InOriginal = C.narrow c (s.birth z.at) z.field x (copy_word s z.at z.field) (objects.shape z.at z.field (home_live (s.state z.at) home) (call.inside z at has)) still in
          rw narrow tt

      copy_not : (to : ℕ) → copy_of k ≡ Some to → ⊥
      copy_not to e = let gone : Original ≡ Copied = sym original ∙ (made.aim to e).place in cc gone

      found_names : (y : Known) → y ≡ k → OnHand (Names s) (word_found (finds c.phase x (copy_word s z.at z.field) y))
      found_names (Loads s t) e = word_names (sym (ap has_field e))
      found_names (Swaps s t w n) e = word_names (sym (ap has_field e))
      found_names (Loads_late s t wide) e = word_names (sym (ap has_field e))
      found_names (Loads_wide s t wide) e = status_names (sym (ap has_field e))
      found_names (Swaps_wide s t wide u n) e = status_names (sym (ap has_field e))
      found_names (Loads_copy s t to) e = absurd (copy_not to (sym (ap copy_of e)))
      found_names (Swaps_copy s t to w n) e = absurd (copy_not to (sym (ap copy_of e)))
      found_names (Checks s t cycle) e = tt
      found_names (Loads_header s t) e = tt
      found_names (Keeps s t tagged) e = tt
      found_names (Stores s word) e = tt
      found_names (Loads_again s t w n) e = tt
      found_names (Loads_address s t wide) e = tt
      found_names (Stores_copy s word to) e = tt
      found_names (Follows s t m) e = tt
      found_names (Over s t end) e = tt

    -- ---- what it has in hand then

    hand_names : OnHand (Names s) (hand_of k)
    hand_names = subst (OnHand (Names s)) (settled_at k z at) names.hand

    own_names : OnHand (Names s) side.own
    own_names = hand_goes (λ b a. ⊥) (Names s) (never (Names s)) side.own its_side.number

    by_from : OnHand (Names s) (word_found found) → (q : Option FieldWord) → From side.own (hand_of k) (word_found found) q → OnHand (Names s) q
    by_from names_it q (inl none) = rw none tt
    by_from names_it q (inr (inl same)) = rw same hand_names
    by_from names_it q (inr (inr (inl same))) = rw same names_it
    by_from names_it q (inr (inr (inr same))) = rw same own_names

    settled_calm : IsCalm s → (y : Known) → From side.own (hand_of k) (word_found found) (hand_of y) → OnHand (Names s) (settled y)
    settled_calm calm (Follows y t (follow.Header birth to)) from = tt
    settled_calm calm (Follows y t (follow.Ended end)) from = by_from (found_names calm k refl) (Some end.word) from
    settled_calm calm y from = by_from (found_names calm k refl) (hand_of y) from

    -- at its field its hand is the one before
    same_hand : (y : Known) → at_field y ≡ Some (spot_of y) → task_of y ≡ task_of k → hand_of y ≡ hand_of k
    same_hand y here same = (hand_at y (spot_of y) here).0 ∙ (ap word_in same ∙ sym (hand_at k z at).0)

    settled_fix : side.acked ≡ Fix → (y : Known) → IsClosed side.acked y → task_of y ≡ task_of k → OnHand (Names s) (settled y)
    settled_fix fix (Follows y t (follow.Header birth to)) is same = tt
    settled_fix fix (Follows y t (follow.Ended end)) is same = on_goes (λ b a. ⊥) (Names s) (never (Names s)) end.word (is fix)
    settled_fix fix (Over y t end) is same = hand_goes (λ b a. ⊥) (Names s) (never (Names s)) (word_ended end) (is fix)
    settled_fix fix y is same = subst (OnHand (Names s)) (sym (same_hand y refl same)) hand_names

    settled_then : IsTasked k → IsCalm s ⊎ (side.acked ≡ Fix) → OnHand (Names s) (settled next)
    settled_then tasked (inl calm) = settled_calm calm next made.goes.hands
    settled_then tasked (inr fix) = settled_fix fix next (closed tasked) made.goes.task

    at_then : (y : Spot) → at_field next ≡ Some y → Names s y.birth y.at
    at_then y e = elim made.goes.stays [ inl none ↦ absurd (let gone : None ≡ Some y = sym none ∙ e in cc gone) | inr same ↦ names.at y (sym same ∙ e) ]

    pub names_then : IsTasked k → IsCalm s ⊎ (side.acked ≡ Fix) → NamesHomes s next
    names_then tasked by = record { at = at_then; hand = settled_then tasked by }
