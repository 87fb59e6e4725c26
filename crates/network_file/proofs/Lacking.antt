-- What a format lacks isn't read: a relay's times before format 2 are the default, and before format 3 no pair has an
-- interval.
use Rattle.std.specs.Prelude.{nat_le}
use Rattle.std.proofs.Common.{◌≡◌, ℕ, ◌<◌, Bool, true, false, List, [], None, Result, Ok, arith}
use Rattle.std.proofs.lemmas.Bool.Decides.{nat_tests}
use Rattle.coord_model.specs.declared.kinds.Key.{Key}
use Rattle.coord_model.specs.declared.kinds.Key.TheVariants as key
use Rattle.network_file.specs.Elements.{top, intervals_at}
use Rattle.network_file.specs.Fault.{each_after}
use Rattle.network_file.specs.RelayEntries.{keys_of_relay}
use Rattle.network_file.specs.Tables.{is_word_of, only, within, elements_at}
use Rattle.network_file.specs.Told.{top_keys}
use Rattle.network_file.specs.Values.{number_or}
use Rattle.network_file.specs.Words.{word_of}
use Rattle.network_file.specs.declared.entries.IntervalEntry.{IntervalEntry}
use Rattle.network_file.specs.declared.fault.NetFault.{NetFault}
use Rattle.network_file.specs.declared.fault.Place.{Place}
use Rattle.network_file.proofs.KnownKeys.{only_known, absent}
use Rattle.toml.specs.Data.{Members, get_member}

before_2 : (format : ℕ) → format < 2 → nat_le 2 format ≡ false
before_2 format early = grind (arith, nat_tests)

before_3 : (format : ℕ) → format < 3 → nat_le 3 format ≡ false
before_3 format early = grind (arith, nat_tests)

before_4 : (format : ℕ) → format < 2 → nat_le 4 format ≡ false
before_4 format early = grind (arith, nat_tests)

-- a number whose key is not there is the default
default_read : (place : Place) (k : Key) (default low high n : ℕ) (members : Members) → get_member (word_of k) members ≡ None
    → number_or place k default low high members ≡ Ok n → n ≡ default
unfolding number_or
default_read place k default low high n members none read =
    let is : ◌≡◌ {A = Result ℕ NetFault} (Ok default) (Ok n) = rw none at read in
    cc

module _ (format : ℕ) (early : format < 2) (place : Place) (members : Members) (custom : Bool) (u : Unit {0}) (passed : only format place (keys_of_relay custom) members ≡ Ok u) where
  lacks_least : (c : Bool) → is_word_of format (keys_of_relay c) (word_of key.LeastMs) ≡ false
  lacks_least true = rw (before_2 format early, before_4 format early)
  lacks_least false = rw (before_2 format early)

  lacks_most : (c : Bool) → is_word_of format (keys_of_relay c) (word_of key.MostMs) ≡ false
  lacks_most true = rw (before_2 format early, before_4 format early)
  lacks_most false = rw (before_2 format early)

  pub no_least : (n : ℕ) → number_or place key.LeastMs 0 0 100000 members ≡ Ok n → n ≡ 0
  no_least n read =
      let none = absent format (keys_of_relay custom) (word_of key.LeastMs) (lacks_least custom) members (only_known format place (keys_of_relay custom) members u passed) in
      default_read place key.LeastMs 0 0 100000 n members none read

  pub no_most : (n : ℕ) → number_or place key.MostMs 0 0 20000000 members ≡ Ok n → n ≡ 0
  no_most n read =
      let none = absent format (keys_of_relay custom) (word_of key.MostMs) (lacks_most custom) members (only_known format place (keys_of_relay custom) members u passed) in
      default_read place key.MostMs 0 0 20000000 n members none read

module _ (format : ℕ) (early : format < 3) (members : Members) (u : Unit {0}) (passed : only format top top_keys members ≡ Ok u) where
  lacks_interval : is_word_of format top_keys (word_of key.Interval) ≡ false
  lacks_interval = rw (before_3 format early)

  pub no_intervals : (entries : List IntervalEntry) → intervals_at format members ≡ Ok entries → entries ≡ []
  unfolding intervals_at elements_at within each_after
  no_intervals entries read =
      let none = absent format top_keys (word_of key.Interval) lacks_interval members (only_known format top top_keys members u passed) in
      let is : ◌≡◌ {A = Result (List IntervalEntry) NetFault} (Ok []) (Ok entries) = rw none at read in
      cc
