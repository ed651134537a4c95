-- What a turn makes of the headers of objects.
use Rattle.std.specs.Prelude.{◌≡◌, ℕ, ◌⊎◌, List}
use Rattle.call_steps.specs.StepLaws.{reading}
use Rattle.heap_words.specs.Layouts.{Sizes}
use Rattle.object_headers.specs.declared.change.Kind.{Kind}
use Rattle.object_headers.specs.Changes.{AllowedChange}
use Rattle.barriers.specs.Spaces.{Space}
use Rattle.barriers.specs.Rows.{Rows}
use Rattle.barriers.specs.Says.{Notices, Says, header_in}

-- The words say one space before and one after, of which the objects of each region follow each other from its first word: so what stands at
-- an address is a function of the words. At each address the header stays, or changes as a copier of this kind may change it.
pub record HeadersChange (kind : Kind) (l : Sizes) (before after : List ℕ) : Type 0 where
  pub old : Space
  pub old_notices : Notices
  pub says_old : Says l (reading before) old old_notices
  pub rows_old : Rows l old.state old.len old.ends old.region
  pub new : Space
  pub new_notices : Notices
  pub says_new : Says l (reading after) new new_notices
  pub rows_new : Rows l new.state new.len new.ends new.region
  pub changes : (a : ℕ) → (header_in new a ≡ header_in old a) ⊎ AllowedChange kind (header_in old a) (header_in new a)
