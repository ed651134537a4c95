-- What a call under way stands on, and what its step comes to, by what is known of it alone.
use Rattle.std.proofs.Common.{◌≡◌, ◌≢◌, ℕ, false, List, Option, Some}
use Rattle.heap_words.specs.Layouts.{Sizes, IsLayout}
use Rattle.heap_history.specs.declared.call.Call.{Call}
use Rattle.handshakes.specs.declared.pass_view.PassView.{PassView}
use Rattle.barriers.specs.declared.front.Front.{Front}
use Rattle.barriers.specs.Spaces.{Space, is_mark}
use Rattle.heap_words.specs.declared.field_word.FieldWord.TheVariants.{Num, Link}
use Rattle.object_headers.specs.Headers.{header_at}
use Rattle.handshakes.specs.Follows.{place_by}
use Rattle.handshakes.specs.declared.follow.FollowMachine.TheVariants as follow
use Rattle.barriers.specs.Says.{Notices, Says, IsPacked}
use Rattle.barriers.specs.Rows.{Rows}
use Rattle.barriers.specs.Stances.{stance_at}
use Rattle.barriers.specs.Cycles.{Cycle}
use Rattle.barriers.specs.MoveWords.{IsSpare}
use Rattle.barriers.specs.Objects.{AreObjects, HasLens, IsSide, IsCall}
use Rattle.barriers.specs.Accesses.{known_after}
use Rattle.barriers.specs.Knowns.{Known, Follows, Over, at_field, spot_of, task_of, found_ending}
use Rattle.barriers.specs.Kits.{Kit, IsFromSearch, own_of, cycle_at}
use Rattle.lawful_records.specs.Frames.{Grows, SeenBy, SameRegion, Leaves, LeavesSearch}
use Rattle.lawful_records.specs.LawfulRecords.{IsUnborn}
use Rattle.lawful_records.specs.Meetings.{HasSpot, FitsHand}
use Rattle.lawful_records.specs.Turns.{change_call, with_change, seen_by, LooksOn}
use Rattle.lawful_records.proofs.telling.Replies.{EndsSo}
use Rattle.lawful_records.proofs.turns.Holding.{side_at}

-- the call is the same
pub record SameCall (k next : Known) : Type 0 where
  pub spot : spot_of next ≡ spot_of k
  pub task : task_of next ≡ task_of k

-- it stays what it is over its step, and ends only as such a call does
pub record CallKept (k next : Known) : Type 0 where
  pub same : SameCall k next
  pub ends : EndsSo next

module _ {R W E M : Type 0} (kit : Kit R W E M) where
  -- a call of a pass with this view, that has seen so much
  pub record CallStands (l : Sizes) (c : Cycle) (s : Space) (n : Notices) (memory : ℕ → ℕ) (v : PassView) (seen : List Call) (k : Known) : Type 0 where
    pub layout : IsLayout l
    pub says : Says l memory s n
    pub spare : IsSpare l memory s
    pub phase : stance_at n.phase ≡ c.phase
    pub rows : Rows l s.state s.len s.ends s.region
    pub objects : AreObjects kit.protocol c s
    pub lens : HasLens s
    pub side : IsSide kit.protocol c s (side_at kit v seen)
    pub call : IsCall kit.protocol c s (side_at kit v seen) k
    pub packed : IsPacked k
    -- its mark fits a word, and where it has one the phase word is of its own cycle
    pub fits_own : FitsHand (own_of kit.minds v)
    pub current : v.mark ≢ 0 → (cycle_at n.phase ≡ cycle_at v.acked) × IsFromSearch (stance_at n.phase)
    -- while Free is not announced the mark is not 0
    pub zero : is_mark c.mark (Num 0) ≡ false
    pub met : HasSpot seen k

  -- It was at a field, where the table says how it goes on, or it followed a link.
  pub data WentOn (c : Cycle) (s : Space) (memory : ℕ → ℕ) (v : PassView) (seen : List Call) (k then : Known) : Type 0 where
    Fed : at_field k ≡ Some (spot_of k) → then ≡ known_after kit.protocol c s (side_at kit v seen) k → WentOn c s memory v seen k then
    Led : (birth at : ℕ) → k ≡ Follows (spot_of k) (task_of k) (follow.Header birth at) → then ≡ Over (spot_of k) (task_of k) (found_ending (task_of k) (Link birth (place_by (header_at (memory at)) at))) → WentOn c s memory v seen k then

  -- By its step, with this change or this look at an object with this seal, the space becomes t, which the words say then; the call goes on
  -- as `next`.
  pub record CallGoes (l : Sizes) (c : Cycle) (s t : Space) (n : Notices) (memory : ℕ → ℕ) (v : PassView) (seen : List Call) (change : Option Call) (look : Front) (seal : Option (List Call)) (next : Known) : Type 0 where
    pub says : Says l memory t n
    pub spare : IsSpare l memory t
    pub rows : Rows l t.state t.len t.ends t.region
    pub objects : AreObjects kit.protocol c t
    pub lens : HasLens t
    pub leaves : Leaves kit.protocol l c s t
    pub search : LeavesSearch kit.kind c (side_at kit v seen) s t
    pub others : SeenBy kit.protocol c s t
    pub regions : (region : ℕ) → SameRegion s t region
    pub change_is : change ≡ change_call next v.pass
    pub history : t.history ≡ with_change change s.history
    pub grows : Grows v.pass s.history t.history
    pub unborn : (made : ℕ) → IsUnborn kit s.history v.pass made → IsUnborn kit t.history v.pass made
    pub looks : LooksOn look seal s.history seen
    pub side : IsSide kit.protocol c t (side_at kit v (seen_by change look seal s.history seen))
    pub call : IsCall kit.protocol c t (side_at kit v (seen_by change look seal s.history seen)) next
    pub ends : EndsSo next
    pub met : HasSpot (seen_by change look seal s.history seen) next
