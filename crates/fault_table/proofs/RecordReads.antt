use Rattle.std.proofs.Common.{◌≡◌, ℕ, suc, Bool, true, false, Option, Some, None, IsSome, List, [], ◌∷◌, refl, ◌∙◌, subst, inl, MatchBool}
use Rattle.csv.specs.Machine.{Read, next_record}
use Rattle.csv.specs.Reading.{NextIs, ReadsNext, ReadRecord, default_config, is_flexible, pending_of, records_from, records_next, source_of, took_first}
use Rattle.csv.specs.declared.parser.State.{State}
use Rattle.csv.specs.declared.reader.Reader.{Reader}
use Rattle.fault_table.specs.Entry.{Fields}
use Rattle.fault_table.specs.Records.{IsReading, records_known, records_left}

-- a read that finds a record: the records are it and those of the bytes that are left
found_next : (n : ℕ) (read : Option Read) (fields : Fields) (s : State) (rest : List ℕ)
    → NextIs read true fields s rest → records_next (records_from default_config n) read ≡ fields ∷ records_from default_config n s rest
found_next n None fields s rest is = absurd (cc)
found_next n (Some p) fields s rest is = rw (is.1, is.2, is.3) refl

pub found_known : (n : ℕ) (s s2 : State) (before after : Option (List ℕ)) (fields : Fields) → IsSome before
    → ReadsNext default_config s before after true fields s2 → (records_known (suc n) s before ≡ fields ∷ records_known n s2 after) × IsSome after
unfolding records_from
found_known n s s2 None after fields known reads = absurd (cc)
found_known n s s2 (Some xs) None fields known reads = absurd reads
found_known n s s2 (Some xs) (Some ys) fields known reads = (found_next n (next_record default_config s [] [] xs) fields s2 ys reads, refl)

-- a read that finds none: there are none
none_next : (n : ℕ) (read : Option Read) (fields : Fields) (s : State) (rest : List ℕ)
    → NextIs read false fields s rest → records_next (records_from default_config n) read ≡ []
none_next n None fields s rest is = refl
none_next n (Some p) fields s rest is = absurd (cc)

pub none_known : (n : ℕ) (s s2 : State) (before after : Option (List ℕ)) (fields : Fields) → IsSome before
    → ReadsNext default_config s before after false fields s2 → records_known (suc n) s before ≡ []
unfolding records_from
none_known n s s2 None after fields known reads = absurd (cc)
none_known n s s2 (Some xs) None fields known reads = absurd reads
none_known n s s2 (Some xs) (Some ys) fields known reads = none_next n (next_record default_config s [] [] xs) fields s2 ys reads

-- once the byte order mark was looked for, what is left to read is what is pending
source_pending : {R : Type 0} (remaining : R → Option (List ℕ)) (reader : Reader R) → reader.bom_checked ≡ true → source_of remaining reader ≡ pending_of (remaining reader.rdr) reader
source_pending remaining reader checked = rw checked refl

-- what one read of a reader does to the records that it has left
pub record_read : {R : Type 0} (remaining : R → Option (List ℕ)) (old new : Reader R) (found : Bool) (fields : Fields)
    → IsReading remaining old → ReadRecord remaining old new found fields → is_flexible new ≡ is_flexible old → took_first new ≡ true
    → MatchBool found
    (((n : ℕ) → records_left remaining (suc n) old ≡ fields ∷ records_left remaining n new) × IsReading remaining new)
    ((n : ℕ) → records_left remaining (suc n) old ≡ [])
record_read remaining old new true fields reading read flexible first =
    let reads = subst (λ config. ReadsNext config old.state (source_of remaining old) (pending_of (remaining new.rdr) new) true fields new.state) reading.default read.0 in
    let left = source_pending remaining new read.1 in (
      λ n. rw left (found_known n old.state new.state (source_of remaining old) (pending_of (remaining new.rdr) new) fields reading.known reads).0,
      record {
        default = read.2 ∙ reading.default;
        untrimmed = read.3 ∙ reading.untrimmed;
        any_length = flexible ∙ reading.any_length;
        ready = inl first;
        known = rw left (found_known 0 old.state new.state (source_of remaining old) (pending_of (remaining new.rdr) new) fields reading.known reads).1;
      },
    )
record_read remaining old new false fields reading read flexible first =
    let reads = subst (λ config. ReadsNext config old.state (source_of remaining old) (pending_of (remaining new.rdr) new) false fields new.state) reading.default read.0 in
    λ n. none_known n old.state new.state (source_of remaining old) (pending_of (remaining new.rdr) new) fields reading.known reads
