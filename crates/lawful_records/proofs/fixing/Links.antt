-- What a header says of a link that holds: it leads to a home, or it goes on to one.
use Rattle.std.proofs.Common.{◌≡◌, ◌≢◌, ℕ, Some, None, refl, sym, ◌∙◌, subst}
use Rattle.heap_words.specs.Layouts.{Sizes}
use Rattle.heap_words.specs.declared.field_word.FieldWord.{FieldWord}
use Rattle.heap_words.specs.declared.field_word.FieldWord.TheVariants.{Link}
use Rattle.heap_words.specs.FieldWords.{IsFieldWord, word_of, field_at}
use Rattle.heap_words.specs.FieldWordLaws.{field_at-word_of}
use Rattle.handshakes.specs.Follows.{place_by}
use Rattle.object_headers.specs.declared.header.Header.{Header}
use Rattle.object_headers.specs.Headers.{IsHeader, header_at}
use Rattle.reference_fix.specs.MovedLinks.{moved_link}
use Rattle.barriers.specs.States.{State, Absent, Plain, Kept, Tagged, Wide, Moving, Underway, Forward, Dead}
use Rattle.barriers.specs.Spaces.{Space, Holds}
use Rattle.barriers.specs.Says.{Notices, Says, header_by}
use Rattle.barriers.specs.Rows.{Rows}
use Rattle.barriers.specs.Cycles.{Cycle}
use Rattle.barriers.specs.Objects.{AreObjects}
use Rattle.barriers.specs.Protocols.{Protocol}
use Rattle.barriers.proofs.words.Found.{found_header}
use Rattle.barriers.proofs.words.Headers.{live_there}
use Rattle.lawful_records.specs.Fixing.{Names, IsFixedTo}

-- by this header a link leads to a home still; or it goes on to this word
pub data LinkFound (s : Space) (birth at : ℕ) (h : Header) : Type 0 where
  Leads : moved_link (Link birth at) h ≡ None → place_by h at ≡ at → Names s birth at → LinkFound s birth at h
  Goes : (put : ℕ) → moved_link (Link birth at) h ≡ Some put → IsFixedTo s (Link birth at) put → Names s birth (place_by h at) → LinkFound s birth at h

module _ {P : Protocol} (l : Sizes) (m : ℕ → ℕ) (c : Cycle) (s : Space) (n : Notices) (rows : Rows l s.state s.len s.ends s.region) (says : Says l m s n) (objects : AreObjects P c s) (birth at : ℕ) (fits : IsFieldWord (Link birth at)) (holds : Holds s birth at) where
  there : s.state at ≢ Absent
  there = live_there (s.state at) holds.1

  abbrev found : State → Header
  found x = header_by x (s.colour at) (s.len at) (s.birth at)

  goes : (to : ℕ) → s.state at ≡ Forward to → LinkFound s birth at (found (Forward to))
  goes to is =
      let target_fits = subst (λ (x : State). IsHeader (found x)) is (says.objects.header_fits at there) in
      let target : to ≡ s.to at = rw is at (objects.target at 0 holds.1) in
      let copy = objects.copied at (rw is tt) in
      let names : Names s birth to = subst (Names s birth) (sym target) (copy.birth ∙ holds.0, rw copy.state tt) in
      let link : FieldWord = Link birth to in
      let link_fits : IsFieldWord link = (fits.0, target_fits.target) in
      let same : field_at (word_of link) ≡ link = field_at-word_of link link_fits in
      Goes (word_of link) refl (record { fits = rw same link_fits; word = rw same refl; value = rw same refl; names = rw same names }) names

  by_state : (x : State) → s.state at ≡ x → LinkFound s birth at (found x)
  by_state Absent is = absurd (there is)
  by_state Underway is = absurd (rw is at holds.1)
  by_state Dead is = absurd (rw is at holds.1)
  by_state (Forward to) is = goes to is
  by_state Plain is = Leads refl refl (holds.0, rw is tt)
  by_state Kept is = Leads refl refl (holds.0, rw is tt)
  by_state Tagged is = Leads refl refl (holds.0, rw is tt)
  by_state (Wide wide) is = Leads refl refl (holds.0, rw is tt)
  by_state (Moving to) is = Leads refl refl (holds.0, rw is tt)

  pub link_leads : LinkFound s birth at (header_at (m at))
  link_leads = subst (LinkFound s birth at) (sym (found_header l m s n rows says at there)) (by_state (s.state at) refl)

  -- so followed it leads to a home
  pub link_names : Names s birth (place_by (header_at (m at)) at)
  link_names = by link_leads
    where
      by : LinkFound s birth at (header_at (m at)) → Names s birth (place_by (header_at (m at)) at)
      by (Leads none same names) = subst (Names s birth) (sym same) names
      by (Goes put is fixed names) = names
