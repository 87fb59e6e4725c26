-- The keys of a table, and those that its format lacks.
use Rattle.std.specs.Cmp.Lexicographic.{slice_cmp, bytes_decides}
use Rattle.std.specs.List.{list_all}
use Rattle.std.specs.Map.{keys_of}
use Rattle.std.specs.Ordering.{nat_cmp, is_eq, match_ordering}
use Rattle.std.specs.Str.{bytes_eq}
use Rattle.std.proofs.Common.{◌≡◌, ℕ, true, false, List, [], ◌∷◌, Ordering, Less, Equal, Greater, Some, None, Result, Ok, Err, String, Global, ◌&&◌, string_bytes, refl, sym, ap, ◌∙◌, inl, inr, true≢false}
use Rattle.std.proofs.lemmas.Bool.{and_parts, cases_Bool}
use Rattle.std.proofs.lemmas.Map.Text.{is_eq-slice_cmp}
use Rattle.coord_model.specs.declared.kinds.Key.{Key}
use Rattle.coord_model.specs.declared.kinds.NetKind.TheVariants.{UnknownKey}
use Rattle.network_file.specs.Fault.{fault_in}
use Rattle.network_file.specs.Tables.{is_word_of, has_only, only}
use Rattle.network_file.specs.declared.fault.NetFault.{NetFault}
use Rattle.network_file.specs.declared.fault.Place.{Place}
use Rattle.toml.specs.Data.{Data, Members, no_members, member, get_member}
use Rattle.toml.specs.View.{members_view}
use Rattle.toml.specs.declared.value.Value.{Value}

-- the keys of a table's map are those of its members
pub same_keys : (format : ℕ) (keys : List Key) (entries : List (String Global × Value))
    → has_only format keys (members_view entries) ≡ list_all (λ text. is_word_of format keys (string_bytes text)) (keys_of entries)
same_keys format keys [] = refl
same_keys format keys (e ∷ es) = ap (λ rest. is_word_of format keys (string_bytes e.0) && rest) (same_keys format keys es)

-- a table that is taken has only the keys
pub only_known : (format : ℕ) (place : Place) (keys : List Key) (members : Members) (u : Unit {0})
    → only format place keys members ≡ Ok u → has_only format keys members ≡ true
unfolding only
only_known format place keys members u passed =
    elim (cases_Bool (has_only format keys members)) [
      | inl known ↦ known
      | inr other ↦
          let refused : ◌≡◌ {A = Result (Unit {0}) NetFault} (Err (fault_in place UnknownKey)) (Ok u) = rw other at passed in
          absurd (cc)
    ]

-- a word that is none of the keys is not in a table that has no others
module _ (format : ℕ) (keys : List Key) (text : List ℕ) (lacks : is_word_of format keys text ≡ false) where
  other_word : (first : List ℕ) → is_word_of format keys first ≡ true → slice_cmp nat_cmp text first ≡ Equal → ⊥
  other_word first known same =
      let equal : bytes_eq text first ≡ true = sym (is_eq-slice_cmp text first) ∙ ap is_eq same in
      let one : text ≡ first = (bytes_decides text first).0 equal in
      true≢false (sym (rw (← one) at known) ∙ lacks)

  past : (o : Ordering) (value : Data) (more : Members) → (o ≡ Equal → ⊥) → get_member text more ≡ None
      → match_ordering o (get_member text more) (Some value) (get_member text more) ≡ None
  past Less value more other rest = rest
  past Equal value more other rest = absurd (other refl)
  past Greater value more other rest = rest

  pub absent : (members : Members) → has_only format keys members ≡ true → get_member text members ≡ None
  absent no_members known = refl
  absent (member first value more) known =
      let parts = and_parts (is_word_of format keys first) (has_only format keys more) known in
      past (slice_cmp nat_cmp text first) value more (other_word first parts.0) (absent more parts.1)
