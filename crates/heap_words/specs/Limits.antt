-- The limits of the format, as numbers. All else cites the constants.
use Rattle.std.specs.Prelude.{◌≡◌, ◌^◌}
use Rattle.heap_words.specs.declared.limits.TheConstants.{MOST_PASSES, MOST_QUOTA, MOST_POOL, MOST_WIDE, MOST_REGIONS, REGION_WORDS, REGISTERS, MOST_FIELDS, NUMBER_LIMIT, BIRTH_LIMIT, ADDRESS_LIMIT, BIRTHS_BETWEEN_PASSES, BIRTHS_OF_PASS, COMMON_BIRTH, COMMON_LEN}

-- the constants are these numbers
pub record AreLimits : Type 0 where
  pub passes : MOST_PASSES ≡ 8
  pub quota : MOST_QUOTA ≡ 256
  pub pool : MOST_POOL ≡ 512
  pub wide : MOST_WIDE ≡ 65536
  pub regions : MOST_REGIONS ≡ 2560
  pub region : REGION_WORDS ≡ 64
  pub registers : REGISTERS ≡ 8
  pub fields : MOST_FIELDS ≡ 30
  pub number : NUMBER_LIMIT ≡ 2 ^ 48
  pub birth : BIRTH_LIMIT ≡ 2 ^ 24
  pub address : ADDRESS_LIMIT ≡ 2 ^ 20
  pub apart : BIRTHS_BETWEEN_PASSES ≡ 524288
  pub births : BIRTHS_OF_PASS ≡ 262144
  pub common : COMMON_BIRTH ≡ 1
  pub common_len : COMMON_LEN ≡ 8
