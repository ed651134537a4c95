-- What was noted so far fits the place of the walk, whatever words it has found.
use Rattle.std.specs.Prelude.{◌≡◌, ℕ, ◌+◌, ◌<◌, ◌≤◌, List, [], ◌∷◌, ◌++◌, Some, None, IfSome}
use Rattle.std.specs.List.{All, AllPairs}
use Rattle.heap_words.specs.Layouts.{Sizes, regions_of}
use Rattle.heap_words.specs.declared.limits.TheConstants.{REGION_WORDS}
use Rattle.object_headers.specs.declared.change.Kind.{Kind}
use Rattle.space_reclaim.specs.declared.plan.RegionLive.{RegionLive}
use Rattle.space_reclaim.specs.Plans.{IsFound, IsSpace, space_of}
use Rattle.live_walk.specs.declared.note.NoteMachine.{NoteMachine}
use Rattle.live_walk.specs.declared.note.NoteMachine.TheVariants as note
use Rattle.live_walk.specs.Walks.{walk_of, first_of, address}
use Rattle.live_walk.specs.Notes.{Notes}

-- its cursor: the address in the regions up to which it has come
abbrev pub cursor_of : NoteMachine → ℕ
cursor_of (note.Region w region) = first_of w region
cursor_of (note.Header w region offset live) = address w region offset
cursor_of (note.Ended w) = first_of w w.regions

-- the region to which it has come
abbrev pub region_of : NoteMachine → ℕ
region_of (note.Region w region) = region
region_of (note.Header w region offset live) = region
region_of (note.Ended w) = w.regions

-- it walks the regions of this layout, and is inside one; it has counted no more words than it has passed there
abbrev pub Walks : Sizes → NoteMachine → Type 0
Walks l (note.Region w region) = (w ≡ walk_of l) × (region < regions_of l)
Walks l (note.Header w region offset live) =
    (w ≡ walk_of l) × (region < regions_of l) × (offset < REGION_WORDS) × IfSome live (λ n. n ≤ offset)
Walks l (note.Ended w) = w ≡ walk_of l

-- the regions noted, and the one in which it is if that was Filled, with the words of its live objects up to the cursor
abbrev pub regions_so_far : NoteMachine → List RegionLive → List RegionLive
regions_so_far (note.Header w region offset (Some live)) rows = rows ++ record { region = region; words = live } ∷ []
regions_so_far m rows = rows

-- a plan can be made from what is noted, for any copier
pub record CanBePlanned (n : Notes) : Type 0 where
  pub found : IsFound n.layout n.live n.objects
  pub space : (wide_free : ℕ) (kind : Kind) → wide_free ≤ n.layout.wide
      → IsSpace (space_of n.layout n.pool_free wide_free kind)

-- What is noted so far could be planned from: regions and objects rise, each object lies in its region, and each region
-- has the words of its objects; the free regions of the pool rise. Nothing is noted that the walk has not passed.
pub record IsNoting (m : NoteMachine) (n : Notes) : Type 0 where
  pub walks : Walks n.layout m
  pub found : IsFound n.layout (regions_so_far m n.live) n.objects
  pub passed : All (λ o. o.at + o.len < cursor_of m) n.objects
  pub walked : All (λ r. r.region < region_of m) n.live
  pub pool_rises : AllPairs (λ a b. a < b) n.pool_free
  pub in_pool : All (λ region. region < n.layout.pool) n.pool_free
  pub free_walked : All (λ region. region < region_of m) n.pool_free
