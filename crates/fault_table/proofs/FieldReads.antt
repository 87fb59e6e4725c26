use Rattle.std.proofs.Common.{◌≡◌, ℕ, Some, None, List, [], ◌∷◌, refl}
use Rattle.csv.specs.Records.{field_at}
use Rattle.fault_table.specs.Entry.{Fields, three_fields}

-- a record with three fields and no fourth has three
pub three_read : (fs : Fields) (a b c : List ℕ) → field_at fs 3 ≡ None → field_at fs 0 ≡ Some a → field_at fs 1 ≡ Some b → field_at fs 2 ≡ Some c → three_fields fs ≡ Some (a, b, c)
unfolding three_fields field_at
three_read [] a b c none first second third = absurd (cc)
three_read (x ∷ []) a b c none first second third = absurd (cc)
three_read (x ∷ y ∷ []) a b c none first second third = absurd (cc)
three_read (x ∷ y ∷ z ∷ []) a b c none first second third = cc
three_read (x ∷ y ∷ z ∷ w ∷ more) a b c none first second third = absurd (cc)

-- a record with a fourth field has not
pub three_long : (fs : Fields) (d : List ℕ) → field_at fs 3 ≡ Some d → three_fields fs ≡ None
unfolding three_fields field_at
three_long [] d long = refl
three_long (x ∷ []) d long = refl
three_long (x ∷ y ∷ []) d long = refl
three_long (x ∷ y ∷ z ∷ []) d long = absurd (cc)
three_long (x ∷ y ∷ z ∷ w ∷ more) d long = refl

-- nor has one that lacks one of the first three
pub three_short_first : (fs : Fields) → field_at fs 0 ≡ None → three_fields fs ≡ None
unfolding three_fields field_at
three_short_first [] short = refl
three_short_first (x ∷ fs) short = absurd (cc)

pub three_short_second : (fs : Fields) → field_at fs 1 ≡ None → three_fields fs ≡ None
unfolding three_fields field_at
three_short_second [] short = refl
three_short_second (x ∷ []) short = refl
three_short_second (x ∷ y ∷ fs) short = absurd (cc)

pub three_short_third : (fs : Fields) → field_at fs 2 ≡ None → three_fields fs ≡ None
unfolding three_fields field_at
three_short_third [] short = refl
three_short_third (x ∷ []) short = refl
three_short_third (x ∷ y ∷ []) short = refl
three_short_third (x ∷ y ∷ z ∷ fs) short = absurd (cc)

pub ruleset three = (three_read, three_long, three_short_first, three_short_second, three_short_third)
