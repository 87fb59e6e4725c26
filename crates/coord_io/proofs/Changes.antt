-- What files are after one of them is changed, and after several changes in a row.
use Rattle.std.proofs.Common.{◌≡◌, ◌≢◌, inl, inr, ℕ, Bool, true, false, cond, List, [], ◌++◌, take, Option, Some, None, IsSome, refl, sym, ap, subst, ◌∙◌, append_assoc, append-nil}
use Rattle.std.specs.Cmp.Lexicographic.{nat_list_cmp_total}
use Rattle.std.specs.FinMap.{get-insert, same_map, slice_cmp-IsAntisymmetric, nat_cmp-IsAntisymmetric}
use Rattle.std.specs.Option.{ForSome}
use Rattle.std.specs.Str.{bytes_eq}
use Rattle.std.proofs.lemmas.Map.Text.{is_eq-slice_cmp}
use Rattle.std.proofs.lemmas.Slice.Eq.{bytes_eq-Decides}
use Rattle.coord_io.specs.Files.{Files, held, HasFile, with_file, Becomes, StaysOrEmpty, StaysOrPart, Gains, GainsPart}
use Rattle.coord_io.specs.Goes.{Goes}
use Rattle.coord_io.proofs.Goings.{goes_on, goes_as}

-- what is held after a file is put
pub held-with_file : (m : Files) (name bytes other : List ℕ) → held (with_file m name bytes) other ≡ cond (bytes_eq other name) (Some bytes) (held m other)
held-with_file m name bytes other =
    get-insert nat_list_cmp_total m name bytes other ∙ ap (λ (t : Bool). cond t (Some bytes) (held m other)) (is_eq-slice_cmp other name)

-- the file that was put
pub held-with_file_same : (m : Files) (name bytes : List ℕ) → held (with_file m name bytes) name ≡ Some bytes
held-with_file_same m name bytes =
    held-with_file m name bytes name ∙ ap (λ (t : Bool). cond t (Some bytes) (held m name)) ((bytes_eq-Decides name name).1 refl)

-- files that are held alike are the same
pub same_files : (m n : Files) → ((name : List ℕ) → held m name ≡ held n name) → m ≡ n
same_files m n alike = same_map nat_list_cmp_total (slice_cmp-IsAntisymmetric nat_cmp-IsAntisymmetric) m n alike

cond_again : {X : Type 0} (t : Bool) (a b c : X) → cond t a (cond t b c) ≡ cond t a c
cond_again true a b c = refl
cond_again false a b c = refl

-- of two files that are put under one name the second counts
pub with_file_again : (m : Files) (name first second : List ℕ) → with_file (with_file m name first) name second ≡ with_file m name second
with_file_again m name first second = same_files _ _ (λ q.
    held-with_file (with_file m name first) name second q
    ∙ ap (cond (bytes_eq q name) (Some second)) (held-with_file m name first q)
    ∙ cond_again (bytes_eq q name) (Some second) (Some first) (held m q)
    ∙ sym (held-with_file m name second q))

cond_swap : {X : Type 0} (s t : Bool) (a b c : X) → (s ≡ true → t ≡ true → a ≡ b) → cond s a (cond t b c) ≡ cond t b (cond s a c)
cond_swap true true a b c same = same refl refl
cond_swap true false a b c same = refl
cond_swap false true a b c same = refl
cond_swap false false a b c same = refl

-- files that are put under two names may be put in either order
pub with_file_swap : (m : Files) (name bytes other more : List ℕ) → other ≢ name → with_file (with_file m name bytes) other more ≡ with_file (with_file m other more) name bytes
with_file_swap m name bytes other more apart = same_files _ _ (λ q.
    held-with_file (with_file m name bytes) other more q
    ∙ ap (cond (bytes_eq q other) (Some more)) (held-with_file m name bytes q)
    ∙ cond_swap (bytes_eq q other) (bytes_eq q name) (Some more) (Some bytes) (held m q)
    (λ one two. absurd (apart (sym ((bytes_eq-Decides q other).0 one) ∙ (bytes_eq-Decides q name).0 two)))
    ∙ sym (held-with_file (with_file m other more) name bytes q ∙ ap (cond (bytes_eq q name) (Some bytes)) (held-with_file m other more q)))

cond_same : {X : Type 0} (t : Bool) (a b : X) → (t ≡ true → a ≡ b) → cond t a b ≡ b
cond_same true a b same = same refl
cond_same false a b same = refl

-- to put what is there changes nothing
pub with_file_held : (m : Files) (name bytes : List ℕ) → held m name ≡ Some bytes → with_file m name bytes ≡ m
with_file_held m name bytes is = same_files _ _ (λ q.
    held-with_file m name bytes q
    ∙ cond_same (bytes_eq q name) (Some bytes) (held m q) (λ same. sym is ∙ ap (held m) (sym ((bytes_eq-Decides q name).0 same))))

-- a file that is there has gained nothing so far
pub gains_nothing : (m : Files) (name : List ℕ) → HasFile m name → Gains name [] m m
gains_nothing m name there =
    elim (held m name) as (λ o. held m name ≡ o → IsSome o → Gains name [] m m) [
      | None ↦ λ is some. let no : ⊥ = cc in absurd no
      | Some bytes ↦ λ is some. record { had = bytes; was = is; becomes = sym (ap (with_file m name) (append-nil bytes) ∙ with_file_held m name bytes is) }
    ] refl there

-- a file that is there has gained no part of some bytes so far
pub gains_no_part : (m n : Files) (name piece : List ℕ) → HasFile m name → n ≡ m → GainsPart name piece m n
gains_no_part m n name piece there same = (0, subst (λ (k : Files). Gains name [] m k) (sym same) (gains_nothing m name there))

-- a file becomes some bytes, and then gains more
pub becomes_more : (l m n : Files) (name bytes added : List ℕ) → Becomes name bytes l m → Gains name added m n → Becomes name (bytes ++ added) l n
becomes_more l m n name bytes added put more =
    let now : held m name ≡ Some bytes = ap (λ (k : Files). held k name) put ∙ held-with_file_same l name bytes in
    let had : more.had ≡ bytes = cc in
    more.becomes ∙ ap (λ (k : Files). with_file k name (more.had ++ added)) put ∙ with_file_again l name bytes (more.had ++ added)
    ∙ ap (λ (b : List ℕ). with_file l name (b ++ added)) had

-- a file gains some bytes, and then more
pub gains_more : (name added after : List ℕ) (l m n : Files) → Gains name added l m → Gains name after m n → Gains name (added ++ after) l n
gains_more name added after l m n some more = record {
  had = some.had;
  was = some.was;
  becomes = becomes_more l m n name (some.had ++ added) after some.becomes more ∙ ap (with_file l name) (append_assoc some.had added after);
}

some_is : {X : Type 0} (o : Option X) (x : X) → o ≡ Some x → IsSome o
some_is {X = X} o x is = subst (λ (p : Option X). IsSome p) (sym is) refl

-- a file that was put is there
pub becomes_there : (m n : Files) (name bytes : List ℕ) → Becomes name bytes m n → HasFile n name
becomes_there m n name bytes put = some_is _ bytes (ap (λ (k : Files). held k name) put ∙ held-with_file_same m name bytes)

-- where the files are told, a file that was started is there to be added to
pub started_there : {told later : Option Files} (name bytes : List ℕ) → Goes told later (Becomes name bytes) → ForSome later (λ m. HasFile m name)
started_there name bytes start = λ n is. let m = start.came n is in becomes_there m.0 n name bytes m.2

-- where the files are told, a file that gained bytes is still there
pub gained_there : {told later : Option Files} (name added : List ℕ) → Goes told later (Gains name added) → ForSome later (λ m. HasFile m name)
gained_there name added more = λ n is. let m = more.came n is in becomes_there m.0 n name _ m.2.becomes

-- a file that was started and then given all bytes is exactly these
pub started_whole : {told later last : Option Files} (name bytes : List ℕ) → Goes told later (Becomes name []) → Goes later last (Gains name bytes) → Goes told last (Becomes name bytes)
started_whole name bytes = goes_on (λ l m n put more. becomes_more l m n name [] bytes put more)

-- a file that was started and then given some bytes is a front of them
pub started_part : {told later last : Option Files} (name bytes : List ℕ) → Goes told later (Becomes name []) → Goes later last (GainsPart name bytes) → Goes told last (StaysOrPart name bytes)
started_part name bytes = goes_on (λ l m n put more. inr (more.0, becomes_more l m n name [] (take more.0 bytes) put more.1))

-- a file whose start failed is as before or a front of what it was to be
pub unstarted_part : {told later : Option Files} (name bytes : List ℕ) → Goes told later (StaysOrEmpty name) → Goes told later (StaysOrPart name bytes)
unstarted_part name bytes = goes_as (λ m n was kept. elim kept as (λ _. StaysOrPart name bytes m n) [ inl same ↦ inl same | inr put ↦ inr (0, put) ])
