-- What is known of Clover's machines.
use Rattle.std.specs.Prelude.{◌≡◌, ◌≢◌, ℕ, suc, ◌<◌, ◌≤◌, Option, Some, None}
use Rattle.heap_words.specs.Layouts.{phase_at}
use Rattle.heap_words.specs.declared.limits.TheConstants.{ADDRESS_LIMIT, MOST_FIELDS}
use Rattle.heap_words.specs.declared.field_word.FieldWord.{FieldWord}
use Rattle.heap_words.specs.declared.field_word.FieldWord.TheVariants.{Num}
use Rattle.heap_words.specs.FieldWords.{field_at}
use Rattle.handshakes.specs.declared.pass_view.PassView.{PassView}
use Rattle.barriers.specs.declared.spot.Spot.{Spot}
use Rattle.barriers.specs.declared.ends.MoveEnd.TheVariants.{Kept}
use Rattle.barriers.specs.declared.plain_exchange.TriesLeft.{TriesLeft}
use Rattle.barriers.specs.States as states
use Rattle.barriers.specs.Values.{value_of}
use Rattle.barriers.specs.Knowns.{Task, Reads, Writes, Exchanges, Ending, Got, Wrote, Done, Differs, Refused, Known, Checks, Loads_header, Loads, Stores, Swaps, Loads_again, Loads_copy, Stores_copy, Swaps_copy, Over, place_in, followed}
use Rattle.barriers.specs.Moves.{Carried, Idles, Lays, Starts, Takes_up, Puts, Marks, Forwards}
use Rattle.barriers.specs.MoveSteps.{job_word, mark_word}
use Rattle.barriers.specs.Says.{IsChange}
use Rattle.barriers.specs.Kits.{cycle_at}
use Rattle.at_rest.specs.Knowing.{IsPhase, IsPackedWord, tries_in}
use Rattle.clover_marks.specs.declared.access.Action.{Action}
use Rattle.clover_marks.specs.declared.access.Action.TheVariants as action
use Rattle.clover_marks.specs.declared.access.Access.{Access}
use Rattle.clover_marks.specs.declared.access.Place.{Place}
use Rattle.clover_marks.specs.declared.access.Place.TheVariants.{Original, Copy}
use Rattle.clover_marks.specs.declared.call.CallEnd.{CallEnd}
use Rattle.clover_marks.specs.declared.call.CallEnd.TheVariants as call_end
use Rattle.clover_marks.specs.declared.call.CloverCall.{CloverCall}
use Rattle.clover_marks.specs.declared.call.CloverCall.TheVariants as call
use Rattle.clover_marks.specs.declared.mover.Relocation.{Relocation}
use Rattle.clover_marks.specs.declared.mover.CloverMove.{CloverMove}
use Rattle.clover_marks.specs.declared.mover.CloverMove.TheVariants as move
use Rattle.clover_marks.specs.Accesses.{word_of_action}

-- ---- what is known of a call

abbrev pub task_in : Action → Task
task_in action.Read = Reads
task_in (action.Write word) = Writes (field_at word)
task_in (action.Exchange expected word) = Exchanges (value_of expected) (field_at word)

abbrev pub ending : CallEnd → Ending
ending (call_end.Got word) = Got word
ending call_end.Wrote = Wrote
ending call_end.Done = Done
ending (call_end.Differs word) = Differs word
ending (call_end.Refused why) = Refused why

-- at a word in the original or in the copy
abbrev pub loads_at : Place → Spot → Task → Known
loads_at Original s t = Loads s t
loads_at (Copy copy) s t = Loads_copy s t copy.at

abbrev pub stores_at : Place → Spot → FieldWord → Known
stores_at Original s word = Stores s word
stores_at (Copy copy) s word = Stores_copy s word copy.at

abbrev pub swaps_at : Place → Spot → Task → FieldWord → ℕ → Known
swaps_at Original s t x n = Swaps s t x n
swaps_at (Copy copy) s t x n = Swaps_copy s t copy.at x n

-- how many exchanges are left
abbrev pub left_in : Option TriesLeft → ℕ
left_in None = 0
left_in (Some tries) = suc (tries_in tries)

abbrev pub knows : CloverCall → Known
knows (call.Phase access cycle at_phase) = Checks access.spot (task_in access.action) cycle
knows (call.Header access) = Loads_header access.spot (task_in access.action)
knows (call.Load access place) = loads_at place access.spot (task_in access.action)
knows (call.Store access place) = stores_at place access.spot (field_at (word_of_action access.action))
knows (call.Try access place wanted tries) = swaps_at place access.spot (task_in access.action) (field_at wanted) (tries_in tries)
knows (call.Again access wanted next) = Loads_again access.spot (task_in access.action) (field_at wanted) (left_in next)
knows (call.TryMark access tries) = Swaps access.spot (task_in access.action) (field_at access.mark) (tries_in tries)
knows (call.Follow access its) = followed access.spot (task_in access.action) its
knows (call.Ended access end) = Over access.spot (task_in access.action) (ending end)

-- ---- what it keeps of its pass, and of words

-- the words of an action are packed
abbrev pub IsPackedAction : Action → Type 0
IsPackedAction action.Read = Unit {0}
IsPackedAction (action.Write word) = IsPackedWord word
IsPackedAction (action.Exchange expected word) = IsPackedWord word

-- the mark and the phase are the pass's
pub record IsAccess (v : PassView) (access : Access) : Type 0 where
  pub mark : access.mark ≡ v.mark
  pub phase : IsPhase v access.phase
  pub packed : IsPackedAction access.action

-- after its header: there are this many fields
pub record IsBegun (v : PassView) (access : Access) : Type 0 where
  pub its : IsAccess v access
  pub few : access.spot.field < MOST_FIELDS

-- in the copy it is at the same field
abbrev pub IsPlaceOf : Spot → Place → Type 0
IsPlaceOf s Original = Unit {0}
IsPlaceOf s (Copy copy) = copy.place ≡ place_in copy.at s

abbrev pub IsWrite : Action → Type 0
IsWrite (action.Write word) = Unit {0}
IsWrite act = ⊥

-- a word that is the mark is a number other than 0
pub record IsMark (mark : ℕ) : Type 0 where
  pub some : mark ≢ 0
  pub number : field_at mark ≡ Num mark
  pub packed : IsPackedWord mark

abbrev pub CallsFor : PassView → CloverCall → Type 0
CallsFor v (call.Phase access cycle at_phase) = IsAccess v access × (cycle ≡ cycle_at v.acked) × (at_phase ≡ phase_at) × (word_of_action access.action ≡ access.mark) × IsMark access.mark × IsChange (task_in access.action)
CallsFor v (call.Header access) = IsAccess v access
CallsFor v (call.Load access place) = IsBegun v access × IsPlaceOf access.spot place
CallsFor v (call.Store access place) = IsBegun v access × IsPlaceOf access.spot place × IsWrite access.action
CallsFor v (call.Try access place wanted tries) = IsBegun v access × IsPlaceOf access.spot place × IsPackedWord wanted × IsChange (task_in access.action)
CallsFor v (call.Again access wanted next) = IsBegun v access × IsPackedWord wanted × IsMark access.mark
CallsFor v (call.TryMark access tries) = IsBegun v access × IsMark access.mark × IsChange (task_in access.action)
CallsFor v (call.Follow access its) = IsAccess v access
CallsFor v (call.Ended access end) = IsAccess v access

-- ---- a move

abbrev pub moves : CloverMove → Carried
moves (move.Header r) = Lays r.job
moves (move.Start r) = Starts r.job
moves (move.Load r field) = Takes_up r.job field
moves (move.Store r field word) = Puts r.job field (field_at word)
moves (move.Mark r field word) = Marks r.job field (field_at word)
moves (move.Forward r) = Forwards r.job
moves (move.Ended end) = Idles

abbrev pub kept_by : CloverMove → Option ℕ
kept_by (move.Ended (Kept header)) = Some header
kept_by m = None

-- the words are those of the headers of the job's object, its places are those of the table, and the mark is the cycle's
pub record IsRelocation (mark : Option FieldWord) (r : Relocation) : Type 0 where
  pub plain : (let h = r in let w = h.headers in w.plain) ≡ job_word states.Plain r.job
  pub moving : (let h = r in let w = h.headers in w.moving) ≡ job_word (states.Moving r.job.to) r.job
  pub forward : (let h = r in let w = h.headers in w.forward) ≡ job_word (states.Forward r.job.to) r.job
  pub from : r.job.from < ADDRESS_LIMIT
  pub to : r.job.to < ADDRESS_LIMIT
  pub few : r.job.len ≤ MOST_FIELDS
  pub its_mark : r.mark ≡ mark_word mark

abbrev pub MovesFor : Option FieldWord → CloverMove → Type 0
MovesFor mark (move.Header r) = IsRelocation mark r
MovesFor mark (move.Start r) = IsRelocation mark r
MovesFor mark (move.Load r field) = IsRelocation mark r × (field < r.job.len)
MovesFor mark (move.Store r field word) = IsRelocation mark r × (field < r.job.len) × IsPackedWord word
MovesFor mark (move.Mark r field word) = IsRelocation mark r × (field < r.job.len) × IsPackedWord word
MovesFor mark (move.Forward r) = IsRelocation mark r
MovesFor mark (move.Ended end) = Unit {0}
