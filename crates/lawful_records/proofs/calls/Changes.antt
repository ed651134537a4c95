-- What the change of a call is, and what it leaves of the objects that its pass has not made yet.
use Rattle.std.proofs.Common.{◌≡◌, ℕ, List, ◌∷◌, true, false, Option, Some, None, is_some, refl, ◌∙◌}
use Rattle.std.specs.Prelude.{IsTrue}
use Rattle.heap_words.specs.declared.field_word.FieldWord.{FieldWord}
use Rattle.heap_history.specs.FixedHeaps.{answer}
use Rattle.heap_history.specs.Histories.{is_change}
use Rattle.heap_history.specs.NewestFirst.{heap_of_history, len_at}
use Rattle.heap_history.specs.declared.call.Call.{Call}
use Rattle.barriers.specs.declared.spot.Spot.{Spot}
use Rattle.barriers.specs.Values.{value_of}
use Rattle.barriers.specs.Knowns.{Task, Reads, Writes, Exchanges, Ending, Got, Wrote, Done, Differs, Refused, Known, Over, spot_of, task_of, call_of, word_in}
use Rattle.barriers.specs.Events.{grown}
use Rattle.barriers.specs.Objects.{reply_made}
use Rattle.barriers.specs.Protocols.{has_made, Suits}
use Rattle.barriers.specs.Kits.{Kit}
use Rattle.lawful_records.specs.LawfulRecords.{IsUnborn}
use Rattle.lawful_records.specs.Turns.{change_call, with_change}
use Rattle.lawful_records.proofs.frames.Unborn.{unread, unmade_write, unmade_exchange}
use Rattle.lawful_records.proofs.telling.Replies.{EndsSo}

-- a call that has not ended with its change has made none
pub change_none : (k : Known) (pass : ℕ) → has_made k ≡ false → change_call k pass ≡ None
change_none k pass none = rw none refl

pub change_some : (k : Known) (pass : ℕ) → has_made k ≡ true → change_call k pass ≡ Some (call_of pass (spot_of k) (task_of k))
change_some k pass made = rw made refl

-- it ends only as such a call does
pub ends_so : (k : Known) → ((s : Spot) (t : Task) (end : Ending) → k ≡ Over s t end → Suits t end) → EndsSo k
ends_so (Over s t end) suits = suits s t end refl
ends_so k suits = tt

-- the change of a call whose step puts this word, or none
abbrev pub put_change : Option FieldWord → Call → Option Call
put_change None call = None
put_change (Some w) call = Some call

pub change_as : (o : Option FieldWord) (k next : Known) (pass : ℕ) → spot_of next ≡ spot_of k → task_of next ≡ task_of k → has_made next ≡ is_some o → change_call next pass ≡ put_change o (call_of pass (spot_of k) (task_of k))
change_as None k next pass spot task made = change_none next pass made
change_as (Some w) k next pass spot task made = change_some next pass made ∙ rw (spot, task) refl

pub grown_as : (o : Option FieldWord) (call : Call) (h : List Call) → with_change (put_change o call) h ≡ grown o call h
grown_as None call h = refl
grown_as (Some w) call h = refl

-- a read makes none
pub change_read : (k : Known) (pass : ℕ) → EndsSo k → task_of k ≡ Reads → change_call k pass ≡ None
change_read (Over s Reads (Got word)) pass ends reads = refl
change_read (Over s Reads (Refused why)) pass ends reads = refl
change_read (Over s Reads (Differs word)) pass ends reads = refl
change_read (Over s Reads Wrote) pass ends reads = absurd ends
change_read (Over s Reads Done) pass ends reads = absurd ends
change_read (Over s (Writes word) end) pass ends reads = absurd cc
change_read (Over s (Exchanges expected word) end) pass ends reads = absurd cc
change_read k pass ends reads = refl

-- the heap is changed by a call that writes
pub reply_changes : (t : Task) (w : FieldWord) → word_in t ≡ Some w → IsTrue (is_change (reply_made t))
reply_changes Reads w writes = absurd cc
reply_changes (Writes word) w writes = refl
reply_changes (Exchanges expected word) w writes = refl

-- a call makes no object
pub unmade_call : (h : List Call) (pass : ℕ) (s : Spot) (t : Task) (birth : ℕ) → IsTrue (is_change (answer (heap_of_history h) (call_of pass s t))) → len_at h birth ≡ None → len_at (call_of pass s t ∷ h) birth ≡ None
unmade_call h pass s Reads birth change none = absurd (unread h pass s.birth s.field change)
unmade_call h pass s (Writes word) birth change none = unmade_write h pass s.birth s.field (value_of word) birth change none
unmade_call h pass s (Exchanges expected word) birth change none = unmade_exchange h pass s.birth s.field expected (value_of word) birth change none

module _ {R W E M : Type 0} (kit : Kit R W E M) where
  pub unborn_call : (h : List Call) (own pass : ℕ) (s : Spot) (t : Task) (made : ℕ) → IsTrue (is_change (answer (heap_of_history h) (call_of own s t))) → IsUnborn kit h pass made → IsUnborn kit (call_of own s t ∷ h) pass made
  unborn_call h own pass s t made change unborn b later last = unmade_call h own s t b change (unborn b later last)
