-- A new object after those of a region.
use Rattle.std.proofs.Common.{◌≡◌, ◌≢◌, ℕ, refl}
use Rattle.call_steps.specs.StepLaws.{Put}
use Rattle.heap_words.specs.Layouts.{Sizes}
use Rattle.object_headers.specs.declared.header.Colour.{Colour}
use Rattle.heap_history.specs.declared.call.Call.{Call}
use Rattle.barriers.specs.States.{Absent, Plain}
use Rattle.barriers.specs.Spaces.{Space}
use Rattle.barriers.specs.Rows.{Rows}
use Rattle.barriers.specs.Says.{Notices, head_word, header_in, SayObjects, SayWide, Says, CanAppend, append}
use Rattle.barriers.proofs.words.Begun.{begun, begun_absent, rows_begun, header_beside, says_begun}

module _ (l : Sizes) (s : Space) (rows : Rows l s.state s.len s.ends s.region) (k len birth : ℕ) (can : CanAppend l s k len birth) where
  plain_there : Plain ≢ Absent
  plain_there e = cc e

  -- nothing is where it begins
  pub absent_before : s.state (s.ends k) ≡ Absent
  absent_before = begun_absent l s rows k len birth can (s.ends k) refl Plain plain_there (λ c i b. refl)

  module _ (colour : Colour) (call : Call) where
    abbrev a : ℕ
    a = s.ends k

    abbrev S : Space
    S = append s k len birth colour call

    pub rows_made : Rows l S.state S.len S.ends S.region
    rows_made = rows_begun l s rows k len birth can a refl Plain plain_there (λ c i b. refl) colour

    pub header_else : (b : ℕ) → b ≢ a → header_in S b ≡ header_in s b
    header_else b y = header_beside l s rows k len birth can a refl Plain plain_there (λ c i b. refl) colour b y

    module _ (m next : ℕ → ℕ) (n : Notices) (says : Says l m s n) (put : Put m next a (head_word Plain colour len birth)) where
      begins : Says l next (begun s k a Plain colour len birth) n
      begins = says_begun l s rows k len birth can a refl Plain plain_there (λ c i b. refl) colour m next n says put

      objects : SayObjects next S
      objects = let o = begins.objects in record { header = o.header; header_fits = o.header_fits; word = o.word; word_fits = o.word_fits }

      wide : SayWide l next S
      wide = let o = begins.wide in record { address = o.address; address_fits = o.address_fits; status = o.status; status_fits = o.status_fits; inside = o.inside; apart = o.apart }

      pub says_made : Says l next S n
      says_made = record { notices = begins.notices; regions = begins.regions; objects = objects; clear = begins.clear; wide = wide }
