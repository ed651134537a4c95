-- What is known of Stopless's machines.
use Rattle.std.specs.Prelude.{◌≡◌, ℕ, ◌<◌, Option, Some, None}
use Rattle.heap_words.specs.declared.limits.TheConstants.{MOST_FIELDS}
use Rattle.heap_words.specs.declared.field_word.FieldWord.{FieldWord}
use Rattle.heap_words.specs.FieldWords.{field_at}
use Rattle.object_headers.specs.Headers.{header_at}
use Rattle.wide_objects.specs.Statuses.{IsStatus, word_of_status, status_at}
use Rattle.space_reclaim.specs.declared.move_job.MoveJob.{MoveJob}
use Rattle.handshakes.specs.declared.pass_view.PassView.{PassView}
use Rattle.barriers.specs.declared.spot.Spot.{Spot}
use Rattle.barriers.specs.declared.ends.MoveEnd.TheVariants.{Kept}
use Rattle.barriers.specs.States as states
use Rattle.barriers.specs.Knowns.{Task, Reads, Writes, Known, Loads_header, Keeps, Loads_wide, Swaps_wide, Loads_late, Loads_address, place_in}
use Rattle.barriers.specs.Moves.{Carried, Idles, Lays, Points, Seals, Asks, Takes_up, Widens, Puts, Finishes, Forwards, Gives_up}
use Rattle.barriers.specs.MoveSteps.{IsJob, job_word}
use Rattle.at_rest.specs.Knowing as rest
use Rattle.at_rest.specs.Knowing.{IsPhase, IsPackedWord, task_of, tries_in}
use Rattle.tagged_calls.specs.LocationLaws.{IsKeep}
use Rattle.tagged_calls.specs.PlacedKnowing.{known_of, PlacedFor}
use Rattle.stopless_copy.specs.declared.read.WideRead.{WideRead}
use Rattle.stopless_copy.specs.declared.read.StoplessRead.{StoplessRead}
use Rattle.stopless_copy.specs.declared.read.StoplessRead.TheVariants as read
use Rattle.stopless_copy.specs.declared.write.WideWrite.{WideWrite}
use Rattle.stopless_copy.specs.declared.write.StoplessWrite.{StoplessWrite}
use Rattle.stopless_copy.specs.declared.write.StoplessWrite.TheVariants as write
use Rattle.stopless_copy.specs.declared.exchange.WideErrand.{WideErrand}
use Rattle.stopless_copy.specs.declared.exchange.StoplessExchange.{StoplessExchange}
use Rattle.stopless_copy.specs.declared.exchange.StoplessExchange.TheVariants as exchange
use Rattle.stopless_copy.specs.declared.mover.MoveHeaders.{MoveHeaders}
use Rattle.stopless_copy.specs.declared.mover.MoveTask.{MoveTask}
use Rattle.stopless_copy.specs.declared.mover.Carry.{Carry}
use Rattle.stopless_copy.specs.declared.mover.Carry.TheVariants as carry
use Rattle.stopless_copy.specs.declared.mover.StoplessMove.{StoplessMove}
use Rattle.stopless_copy.specs.declared.mover.StoplessMove.TheVariants as move

-- ---- what is known of each

abbrev pub reads : StoplessRead → Known
reads (read.Header spot phase) = Loads_header spot Reads
reads (read.Field m) = known_of rest.reads m
reads (read.Wide its) = Loads_wide its.spot Reads its.wide.at
reads (read.Original its) = Loads_late its.spot Reads its.wide.at
reads (read.Address its) = Loads_address its.spot Reads its.wide.at

abbrev pub written : WideWrite → Task
written its = Writes (field_at its.word)

abbrev pub writes : StoplessWrite → Known
writes (write.Header spot word) = Loads_header spot (Writes (field_at word))
writes (write.Keep spot word keep) = Keeps spot (Writes (field_at word)) (header_at keep.tagged)
writes (write.Field m) = known_of rest.writes m
writes (write.Wide its) = Loads_wide its.spot (written its) its.wide.at
writes (write.Try its wanted tries) = Swaps_wide its.spot (written its) its.wide.at (status_at wanted) (tries_in tries)
writes (write.Address its) = Loads_address its.spot (written its) its.wide.at

abbrev pub exchanged : WideErrand → Task
exchanged its = task_of its.errand

abbrev pub exchanges : StoplessExchange → Known
exchanges (exchange.Header errand phase) = Loads_header errand.spot (task_of errand)
exchanges (exchange.Keep errand phase keep) = Keeps errand.spot (task_of errand) (header_at keep.tagged)
exchanges (exchange.Field m) = known_of rest.exchanges m
exchanges (exchange.Wide its) = Loads_wide its.errand.spot (exchanged its) its.wide.at
exchanges (exchange.Original its) = Loads_late its.errand.spot (exchanged its) its.wide.at
exchanges (exchange.Try its wanted tries) = Swaps_wide its.errand.spot (exchanged its) its.wide.at (status_at wanted) (tries_in tries)
exchanges (exchange.Address its) = Loads_address its.errand.spot (exchanged its) its.wide.at

-- ---- what they keep of their pass, and of words

-- the one is the same field's in the wide object, of an object that can have it
pub record IsWideOf (spot wide : Spot) : Type 0 where
  pub place : wide.place ≡ place_in wide.at spot
  pub few : spot.field < MOST_FIELDS

-- the word of a status
pub record IsPackedStatus (word : ℕ) : Type 0 where
  pub same : word ≡ word_of_status (status_at word)
  pub fits : IsStatus (status_at word)

abbrev pub WideReadsFor : PassView → WideRead → Type 0
WideReadsFor v its = IsPhase v its.phase × IsWideOf its.spot its.wide

abbrev pub ReadsFor : PassView → StoplessRead → Type 0
ReadsFor v (read.Header spot phase) = IsPhase v phase
ReadsFor v (read.Field m) = PlacedFor rest.reads rest.ReadsFor v m
ReadsFor v (read.Wide its) = WideReadsFor v its
ReadsFor v (read.Original its) = WideReadsFor v its
ReadsFor v (read.Address its) = WideReadsFor v its

abbrev pub WideWritesFor : WideWrite → Type 0
WideWritesFor its = IsPackedWord its.word × IsWideOf its.spot its.wide

abbrev pub WritesFor : PassView → StoplessWrite → Type 0
WritesFor v (write.Header spot word) = IsPackedWord word
WritesFor v (write.Keep spot word keep) = IsPackedWord word × IsKeep spot keep
WritesFor v (write.Field m) = PlacedFor rest.writes rest.WritesFor v m
WritesFor v (write.Wide its) = WideWritesFor its
WritesFor v (write.Try its wanted tries) = WideWritesFor its × IsPackedStatus wanted
WritesFor v (write.Address its) = WideWritesFor its

abbrev pub WideExchangesFor : PassView → WideErrand → Type 0
WideExchangesFor v its = IsPhase v its.phase × IsPackedWord its.errand.word × IsWideOf its.errand.spot its.wide

abbrev pub ExchangesFor : PassView → StoplessExchange → Type 0
ExchangesFor v (exchange.Header errand phase) = IsPhase v phase × IsPackedWord errand.word
ExchangesFor v (exchange.Keep errand phase keep) = IsPhase v phase × IsPackedWord errand.word × IsKeep errand.spot keep
ExchangesFor v (exchange.Field m) = PlacedFor rest.exchanges rest.ExchangesFor v m
ExchangesFor v (exchange.Wide its) = WideExchangesFor v its
ExchangesFor v (exchange.Original its) = WideExchangesFor v its
ExchangesFor v (exchange.Try its wanted tries) = WideExchangesFor v its × IsPackedStatus wanted
ExchangesFor v (exchange.Address its) = WideExchangesFor v its

-- ---- a move

abbrev pub carries_as : MoveJob → ℕ → Carry → Carried
carries_as job field carry.Ask = Asks job field
carries_as job field carry.Load = Takes_up job field
carries_as job field (carry.Widen word) = Widens job field (field_at word)
carries_as job field (carry.Store word) = Puts job field (field_at word)
carries_as job field (carry.Finish word) = Finishes job field (field_at word)

abbrev pub moves : StoplessMove → Carried
moves (move.Header task) = Lays task.job
moves (move.Address task) = Points task.job
moves (move.Seal task) = Seals task.job
moves (move.GiveUp task header) = Gives_up task.job
moves (move.Carries task field how) = carries_as task.job field how
moves (move.Forward task) = Forwards task.job
moves (move.Ended end) = Idles

-- the header that its exchange found
abbrev pub kept_by : StoplessMove → Option ℕ
kept_by (move.GiveUp task header) = Some header
kept_by (move.Ended (Kept header)) = Some header
kept_by m = None

-- the words are those of the headers of the job's object
pub record HasHeaders (job : MoveJob) (headers : MoveHeaders) : Type 0 where
  pub is_job : IsJob job
  pub tagged : headers.tagged ≡ job_word states.Tagged job
  pub wide : headers.wide ≡ job_word (states.Wide job.wide) job
  pub forward : headers.forward ≡ job_word (states.Forward job.to) job
  pub plain : headers.plain ≡ job_word states.Plain job
  pub dead : headers.dead ≡ job_word states.Dead job

abbrev pub HasTask : MoveTask → Type 0
HasTask task = HasHeaders task.job task.headers

-- the word in hand is that of a field
abbrev pub CarriesFor : Carry → Type 0
CarriesFor carry.Ask = Unit {0}
CarriesFor carry.Load = Unit {0}
CarriesFor (carry.Widen word) = IsPackedWord word
CarriesFor (carry.Store word) = IsPackedWord word
CarriesFor (carry.Finish word) = IsPackedWord word

abbrev pub MovesFor : Option FieldWord → StoplessMove → Type 0
MovesFor mark (move.Header task) = HasTask task
MovesFor mark (move.Address task) = HasTask task
MovesFor mark (move.Seal task) = HasTask task
MovesFor mark (move.GiveUp task header) = HasTask task
MovesFor mark (move.Carries task field how) = HasTask task × (field < task.job.len) × CarriesFor how
MovesFor mark (move.Forward task) = HasTask task
MovesFor mark (move.Ended end) = Unit {0}
