-- What is known of Chicken's machines.
use Rattle.std.specs.Prelude.{◌≡◌, ℕ, ◌<◌, ◌≤◌, Option, Some, None}
use Rattle.heap_words.specs.declared.limits.TheConstants.{ADDRESS_LIMIT, MOST_FIELDS}
use Rattle.heap_words.specs.declared.field_word.FieldWord.{FieldWord}
use Rattle.heap_words.specs.FieldWords.{field_at}
use Rattle.object_headers.specs.Headers.{IsHeader, header_at}
use Rattle.space_reclaim.specs.declared.move_job.MoveJob.{MoveJob}
use Rattle.barriers.specs.declared.ends.MoveEnd.TheVariants.{Kept}
use Rattle.barriers.specs.States as states
use Rattle.barriers.specs.Says.{header_by}
use Rattle.barriers.specs.Moves.{Carried, Idles, Lays, Takes_up, Puts, Forwards, Gives_up}
use Rattle.barriers.specs.MoveSteps.{job_word}
use Rattle.chicken_tags.specs.declared.mover.MoveHeaders.{MoveHeaders}
use Rattle.chicken_tags.specs.declared.mover.ChickenMove.{ChickenMove}
use Rattle.chicken_tags.specs.declared.mover.ChickenMove.TheVariants as move
use Rattle.handshakes.specs.declared.pass_view.PassView.{PassView}
use Rattle.barriers.specs.Knowns.{Reads, Writes, Known, Loads_header, Keeps}
use Rattle.at_rest.specs.Knowing as rest
use Rattle.at_rest.specs.Knowing.{IsPhase, IsPackedWord, task_of}
use Rattle.tagged_calls.specs.LocationLaws.{IsKeep}
use Rattle.tagged_calls.specs.PlacedKnowing.{known_of, PlacedFor}
use Rattle.chicken_tags.specs.declared.read.ChickenRead.{ChickenRead}
use Rattle.chicken_tags.specs.declared.read.ChickenRead.TheVariants as read
use Rattle.chicken_tags.specs.declared.write.ChickenWrite.{ChickenWrite}
use Rattle.chicken_tags.specs.declared.write.ChickenWrite.TheVariants as write
use Rattle.chicken_tags.specs.declared.exchange.ChickenExchange.{ChickenExchange}
use Rattle.chicken_tags.specs.declared.exchange.ChickenExchange.TheVariants as exchange

-- ---- what is known of each

abbrev pub reads : ChickenRead → Known
reads (read.Header spot phase) = Loads_header spot Reads
reads (read.Field m) = known_of rest.reads m

abbrev pub writes : ChickenWrite → Known
writes (write.Header spot word) = Loads_header spot (Writes (field_at word))
writes (write.Keep spot word keep) = Keeps spot (Writes (field_at word)) (header_at keep.tagged)
writes (write.Field m) = known_of rest.writes m

abbrev pub exchanges : ChickenExchange → Known
exchanges (exchange.Header errand phase) = Loads_header errand.spot (task_of errand)
exchanges (exchange.Keep errand phase keep) = Keeps errand.spot (task_of errand) (header_at keep.tagged)
exchanges (exchange.Field m) = known_of rest.exchanges m

-- ---- what they keep of their pass, and of words

abbrev pub ReadsFor : PassView → ChickenRead → Type 0
ReadsFor v (read.Header spot phase) = IsPhase v phase
ReadsFor v (read.Field m) = PlacedFor rest.reads rest.ReadsFor v m

abbrev pub WritesFor : PassView → ChickenWrite → Type 0
WritesFor v (write.Header spot word) = IsPackedWord word
WritesFor v (write.Keep spot word keep) = IsPackedWord word × IsKeep spot keep
WritesFor v (write.Field m) = PlacedFor rest.writes rest.WritesFor v m

abbrev pub ExchangesFor : PassView → ChickenExchange → Type 0
ExchangesFor v (exchange.Header errand phase) = IsPhase v phase × IsPackedWord errand.word
ExchangesFor v (exchange.Keep errand phase keep) = IsPhase v phase × IsPackedWord errand.word × IsKeep errand.spot keep
ExchangesFor v (exchange.Field m) = PlacedFor rest.exchanges rest.ExchangesFor v m

-- ---- a move

abbrev pub moves : ChickenMove → Carried
moves (move.Header job headers) = Lays job
moves (move.Load job headers field) = Takes_up job field
moves (move.Store job headers field word) = Puts job field (field_at word)
moves (move.Forward job headers) = Forwards job
moves (move.GiveUp job headers header) = Gives_up job
moves (move.Ended end) = Idles

-- the header that its exchange found
abbrev pub kept_by : ChickenMove → Option ℕ
kept_by (move.GiveUp job headers header) = Some header
kept_by (move.Ended (Kept header)) = Some header
kept_by m = None

-- the words are those of the headers of the job's object, and its places are those of the table
pub record HasHeaders (job : MoveJob) (headers : MoveHeaders) : Type 0 where
  pub len : (let h = header_at job.header in h.len) ≡ job.len
  pub fits : (let h = header_at job.header in IsHeader (header_by states.Tagged h.colour job.len job.birth))
  pub tagged : headers.tagged ≡ job_word states.Tagged job
  pub forward : headers.forward ≡ job_word (states.Forward job.to) job
  pub plain : headers.plain ≡ job_word states.Plain job
  pub dead : headers.dead ≡ job_word states.Dead job
  pub from : job.from < ADDRESS_LIMIT
  pub to : job.to < ADDRESS_LIMIT
  pub few : job.len ≤ MOST_FIELDS

abbrev pub MovesFor : Option FieldWord → ChickenMove → Type 0
MovesFor mark (move.Header job headers) = HasHeaders job headers
MovesFor mark (move.Load job headers field) = HasHeaders job headers × (field < job.len)
MovesFor mark (move.Store job headers field word) = HasHeaders job headers × (field < job.len) × IsPackedWord word
MovesFor mark (move.Forward job headers) = HasHeaders job headers
MovesFor mark (move.GiveUp job headers header) = HasHeaders job headers
MovesFor mark (move.Ended end) = Unit {0}
