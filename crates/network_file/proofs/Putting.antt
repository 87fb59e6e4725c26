-- A value that is put into the map of a table stands among the members that the table has.
use Rattle.std.proofs.Common.{◌≡◌, ℕ, pos, Bool, true, false, if◌then◌else◌, List, [], ◌∷◌, Ordering, Less, Equal, Greater, String, Global, string_bytes, arith, refl, ◌∙◌}
use Rattle.std.proofs.lemmas.Bool.{and_parts}
use Rattle.std.specs.Cmp.Lexicographic.{slice_cmp}
use Rattle.std.specs.BTreeMap.{insert_entry}
use Rattle.std.specs.Ordering.{nat_cmp, match_ordering}
use Rattle.std.specs.String.{string_cmp}
use Rattle.coord_model.specs.declared.curve.CurveName.{CurveName}
use Rattle.coord_model.specs.declared.curve.CurveName.TheVariants.{IecA, IecB, IecC, IeeeMi, IeeeVi, IeeeEi, Custom}
use Rattle.coord_model.specs.declared.kinds.Key.{Key}
use Rattle.coord_model.specs.declared.kinds.Key.TheVariants.{CustomK, CustomC, CustomJ, CustomH}
use Rattle.network_file.specs.Printed.{put, put_known, with_constants, IsPlain}
use Rattle.network_file.specs.Words.{has_key, word_of}
use Rattle.toml.specs.Data.{integer, has_valid_dates, Members, no_members, member, members_have_valid_dates}
use Rattle.toml.specs.View.{view, members_view}
use Rattle.toml.specs.declared.value.Value.{Value}

match_members : (o : Ordering) (a b c : List (String Global × Value))
    → members_view (match_ordering o a b c) ≡ match_ordering o (members_view a) (members_view b) (members_view c)
match_members Less a b c = refl
match_members Equal a b c = refl
match_members Greater a b c = refl

pub members_with : (entries : List (String Global × Value)) (key : String Global) (value : Value)
    → members_view (insert_entry string_cmp entries key value) ≡ put (string_bytes key) (view value) (members_view entries)
members_with [] key value = refl
members_with (e ∷ es) key value = match_members (string_cmp key e.0) _ _ _ ∙ rw (members_with es key value)

-- a number that is put among plain members leaves them plain
put_plain : (key : List ℕ) (n : ℕ) (ms : Members) → IsPlain 0 ms → IsPlain 0 (put key (integer (pos n)) ms)
put_plain key n no_members plain = record { nested = omega arith; dated = refl }
put_plain key n (member first held more) plain =
    let parts = and_parts (has_valid_dates held) (members_have_valid_dates more) plain.dated in
    let rest = put_plain key n more (record { nested = omega (arith, plain.nested); dated = parts.1 }) in
    go (slice_cmp nat_cmp key first)
    (record { nested = omega (arith, plain.nested); dated = plain.dated })
    (record { nested = omega (arith, plain.nested); dated = parts.1 })
    (record { nested = omega (arith, plain.nested, rest.nested); dated = rw (parts.0, rest.dated) })
  where
    go : (o : Ordering) {a b c : Members} → IsPlain 0 a → IsPlain 0 b → IsPlain 0 c → IsPlain 0 (match_ordering o a b c)
    go Less x y z = x
    go Equal x y z = y
    go Greater x y z = z

pub put_known_plain : (format : ℕ) (key : Key) (n : ℕ) (ms : Members) → IsPlain 0 ms → IsPlain 0 (put_known format key (integer (pos n)) ms)
put_known_plain format key n ms plain = go (has_key format key)
  where
    go : (b : Bool) → IsPlain 0 (if b then put (word_of key) (integer (pos n)) ms else ms)
    go true = put_plain (word_of key) n ms plain
    go false = plain

-- and so do the constants of a curve
pub constants_plain : (format : ℕ) (curve : CurveName) (ms : Members) → IsPlain 0 ms → IsPlain 0 (with_constants format curve ms)
constants_plain format IecA ms plain = plain
constants_plain format IecB ms plain = plain
constants_plain format IecC ms plain = plain
constants_plain format IeeeMi ms plain = plain
constants_plain format IeeeVi ms plain = plain
constants_plain format IeeeEi ms plain = plain
constants_plain format (Custom k4 c4 e h) ms plain =
    put_known_plain format CustomH h _ (put_known_plain format CustomJ e _ (put_known_plain format CustomC c4 _ (put_known_plain format CustomK k4 ms plain)))
