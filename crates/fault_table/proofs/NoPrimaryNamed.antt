-- A fault without primary current is one of the study's faults.
use Rattle.std.proofs.Common.{◌≡◌, ℕ, zero, suc, ◌+◌, ◌<◌, Bool, true, false, not, nat_lt, Option, Some, None, Result, Ok, Err, List, [], ◌∷◌, ◌++◌, length, refl, arith}
use Rattle.std.specs.Prelude.{find, if◌then◌else◌}
use Rattle.std.specs.List.{list_any, range_with_len}
use Rattle.coord_model.specs.StudyData.{StudyData}
use Rattle.coord_model.specs.declared.study.Current.{Current}
use Rattle.fault_table.specs.Entry.{Fields, amps_in, entry_of, fault_named, found_or, go_on, is_repeated, next_entry, record_of, relay_named, three_fields}
use Rattle.fault_table.specs.Table.{entries_from, fed, feeds, is_header, table_of, unfed_fault}
use Rattle.fault_table.specs.declared.fault.TableFault.{TableFault}
use Rattle.fault_table.specs.declared.fault.TableFault.TheVariants.{BadHeader, BadRecord, UnknownFault, UnknownRelay, BadAmps, DoubleEntry, TooMany, NoPrimary}

-- what is found in a count lies below its end
found-below : (p : ℕ → Bool) (a n f : ℕ) (b : Bool) (rest : Option ℕ) → ((is : rest ≡ Some f) → f < a + 1 + n)
    → (if b then Some a else rest) ≡ Some f → f < a + suc n
found-below p a n f true rest later is = let same : a ≡ f = cc in omega arith
found-below p a n f false rest later is = omega (arith, later is)

find-below : (p : ℕ → Bool) (a n f : ℕ) → find p (range_with_len a n) ≡ Some f → f < a + n
find-below p a zero f is = absurd (cc)
find-below p a (suc n) f is = found-below p a n f (p a) (find p (range_with_len (a + 1) n)) (λ later. find-below p (a + 1) n f later) is

no_primary : ℕ → Result Current TableFault
no_primary number = Err (NoPrimary number)

-- no step before the last gives that fault
entry_of-other : (n number : ℕ) (f r a : Option ℕ)
    → found_or f (UnknownFault n) (λ f. found_or r (UnknownRelay n) (λ r. found_or a (BadAmps n) (λ a. Ok (record { fault = f; relay = r; amps = a })))) ≡ no_primary number → ⊥
unfolding no_primary
entry_of-other n number None r a is = cc
entry_of-other n number (Some f) None a is = cc
entry_of-other n number (Some f) (Some r) None is = cc
entry_of-other n number (Some f) (Some r) (Some a) is = cc

entry-other : (study : StudyData) (n number : ℕ) (fault relay amps : List ℕ) → entry_of study n fault relay amps ≡ Err (NoPrimary number) → ⊥
unfolding entry_of no_primary
entry-other study n number fault relay amps is = entry_of-other n number (fault_named study fault) (relay_named study relay) (amps_in amps) is

record-other : (study : StudyData) (n number : ℕ) (fields : Option (List ℕ × List ℕ × List ℕ))
    → found_or fields (BadRecord n) (λ t. entry_of study n t.0 t.1 t.2) ≡ Err (NoPrimary number) → ⊥
record-other study n number None is = cc
record-other study n number (Some t) is = entry-other study n number t.0 t.1 t.2 is

repeated-other : (n number : ℕ) (entry : Current) (b : Bool) → (if b then Err (DoubleEntry n) else Ok entry) ≡ Err (NoPrimary number) → ⊥
repeated-other n number entry true is = cc
repeated-other n number entry false is = cc

after-other : (study : StudyData) (earlier : List Current) (n number : ℕ) (read : Result Current TableFault)
    → ((is : read ≡ Err (NoPrimary number)) → ⊥)
    → go_on read (λ entry. if is_repeated earlier entry then Err (DoubleEntry n) else Ok entry) ≡ Err (NoPrimary number) → ⊥
after-other study earlier n number (Err fault) other is = other (cc)
after-other study earlier n number (Ok entry) other is = repeated-other n number entry (is_repeated earlier entry) is

many-other : (study : StudyData) (earlier : List Current) (n number : ℕ) (fields : Fields) (b : Bool)
    → (if b then Err (TooMany 8192) else go_on (record_of study n fields) (λ entry. if is_repeated earlier entry then Err (DoubleEntry n) else Ok entry)) ≡ Err (NoPrimary number) → ⊥
unfolding record_of
many-other study earlier n number fields true is = cc
many-other study earlier n number fields false is = after-other study earlier n number (record_of study n fields) (record-other study n number (three_fields fields)) is

next-other : (study : StudyData) (earlier : List Current) (number : ℕ) (fields : Fields) → next_entry study earlier fields ≡ Err (NoPrimary number) → ⊥
unfolding next_entry
next-other study earlier number fields is = many-other study earlier (length earlier + 1) number fields (nat_lt 8192 (length earlier + 1)) is

turn-other : (study : StudyData) (number : ℕ) (read : Result Current TableFault) (more : Current → Result (List Current) TableFault)
    → ((is : read ≡ Err (NoPrimary number)) → ⊥) → ((entry : Current) → more entry ≡ Err (NoPrimary number) → ⊥)
    → go_on read more ≡ Err (NoPrimary number) → ⊥
turn-other study number (Err fault) more now later is = now (cc)
turn-other study number (Ok entry) more now later is = later entry is

entries-other : (study : StudyData) (number : ℕ) (earlier : List Current) (records : List Fields) → entries_from study earlier records ≡ Err (NoPrimary number) → ⊥
unfolding entries_from
entries-other study number earlier [] is = cc
entries-other study number earlier (fields ∷ rest) is =
    turn-other study number (next_entry study earlier fields) (λ entry. entries_from study (earlier ++ entry ∷ []) rest)
    (λ now. next-other study earlier number fields now) (λ entry later. entries-other study number (earlier ++ entry ∷ []) rest later) is

-- the fault without primary current is a fault of the study
chosen-below : (study : StudyData) (entries : List Current) (number : ℕ) (found : Option ℕ) → ((f : ℕ) → found ≡ Some f → f < length study.faults)
    → (elim found as (λ _. Result (List Current) TableFault) [ None ↦ Ok entries | Some f ↦ Err (NoPrimary f) ]) ≡ Err (NoPrimary number) → number < length study.faults
chosen-below study entries number None below is = absurd (cc)
chosen-below study entries number (Some f) below is = let same : f ≡ number = cc in omega (arith, below f refl, same)

fed-below : (study : StudyData) (entries : List Current) (number : ℕ) → fed study entries ≡ Err (NoPrimary number) → number < length study.faults
unfolding unfed_fault
fed-below study entries number is =
    chosen-below study entries number (unfed_fault study entries)
    (λ f found. omega (arith, find-below (λ f. not (list_any (feeds study f) entries)) 0 (length study.faults) f found)) is

fed-named : (study : StudyData) (records : List Fields) (number : ℕ) (read : Result (List Current) TableFault)
    → ((is : read ≡ Err (NoPrimary number)) → ⊥) → go_on read (fed study) ≡ Err (NoPrimary number) → number < length study.faults
fed-named study records number (Err fault) other is = absurd (other (cc))
fed-named study records number (Ok entries) other is = fed-below study entries number is

headed-named : (study : StudyData) (rest : List Fields) (number : ℕ) (b : Bool)
    → (if b then go_on (entries_from study [] rest) (fed study) else Err BadHeader) ≡ Err (NoPrimary number) → number < length study.faults
headed-named study rest number true is = fed-named study rest number (entries_from study [] rest) (entries-other study number [] rest) is
headed-named study rest number false is = absurd (cc)

pub named : (study : StudyData) (records : List Fields) (number : ℕ) → table_of study records ≡ Err (NoPrimary number) → number < length study.faults
named study [] number is = absurd (cc)
named study (first ∷ rest) number is = headed-named study rest number (is_header first) is
