-- The allowed changes of a wide word.
use Rattle.std.specs.Prelude.{◌≡◌, ℕ, ◌≤◌, ◌⊎◌, ⊤}
use Rattle.wide_objects.specs.declared.wide_word.Status2.{Status2}
use Rattle.wide_objects.specs.declared.wide_word.Status2.TheVariants.{InOriginal, InWide, InCopy}
use Rattle.wide_objects.specs.declared.wide_word.WideWord.{WideWord}
use Rattle.wide_objects.specs.WideWords.{code_of, at_rest}

-- the way of a value: from the original into the wide object, where others take its place, and from there, as it is, into the copy
abbrev pub Carries : Status2 → ℕ → Status2 → ℕ → Type 0
Carries InOriginal old InWide new = ⊤
Carries InWide old InWide new = ⊤
Carries InWide old InCopy new = old ≡ new
Carries from old to new = ⊥

-- a change that a pass or the collector may make: a value is carried on, or the release resets the word
abbrev pub AllowedChange : WideWord → WideWord → Type 0
AllowedChange from to = Carries from.status from.word to.status to.word ⊎ (to ≡ at_rest)

-- a status rises until the release: the change resets the word, or the status is no lower after it
abbrev pub RisesOrIsReset : WideWord → WideWord → Type 0
RisesOrIsReset from to = (to ≡ at_rest) ⊎ (code_of from.status ≤ code_of to.status)
