-- An open leaf of a tree, and the tree after it was turned into another.
use Rattle.std.proofs.Common.{◌≡◌, ℕ, ◌≤◌, ◌+◌, List, refl, arith, subst, ◌∙◌, ⊎_elim}
use Rattle.std.specs.Prelude.{Contains, zero, suc}
use Rattle.std.specs.List.{sum_by}
use Rattle.std.proofs.lemmas.List.Elements.{Contains-append_cases}
use Rattle.std.proofs.lemmas.List.Sums.{sum_by-append}
use Rattle.std.proofs.lemmas.Grind.{common_steps}
use Rattle.search_tree.specs.declared.slot.Slot.{Slot}
use Rattle.search_tree.specs.Plan.{Plan, split, closed, opened, number_of, entries, HasOpen, open_here, open_low, open_high}
use Rattle.search_tree.specs.Steps.{Turns, turn_here, turn_low, turn_high}
use Rattle.search_tree.specs.Arena.{Stands, times}
use Rattle.search_tree.proofs.Standing.{Agree, stands_kept}

module _ {T : Type 0} {n b : ℕ} {v : T} where
  -- the tree after the open leaf was turned into q
  abbrev pub turned : (p : Plan T) → HasOpen n b v p → Plan T → Plan T
  turned (split m r a l h) (open_low at) q = split m r a (turned l at q) h
  turned (split m r a l h) (open_high at) q = split m r a l (turned h at q)
  turned (closed m leaf) at q = elim at [ ]
  turned (opened m c w) open_here q = q

  -- it is one turn
  pub turns : (Q : ℕ → T → Plan T → Type 0) (p : Plan T) (at : HasOpen n b v p) (q : Plan T) → Q n v q → Turns Q p (turned p at q)
  turns Q (split m r a l h) (open_low at) q ok = turn_low (turns Q l at q ok)
  turns Q (split m r a l h) (open_high at) q ok = turn_high (turns Q h at q ok)
  turns Q (closed m leaf) at q ok = elim at [ ]
  turns Q (opened m c w) open_here q ok = turn_here ok

  pub number_kept : (p : Plan T) (at : HasOpen n b v p) (q : Plan T) → number_of q ≡ n → number_of (turned p at q) ≡ number_of p
  number_kept (split m r a l h) (open_low at) q e = refl
  number_kept (split m r a l h) (open_high at) q e = refl
  number_kept (closed m leaf) at q e = elim at [ ]
  number_kept (opened m c w) open_here q e = e

  pub times_turned : (k : ℕ) (p : Plan T) (at : HasOpen n b v p) (q : Plan T) → times k (turned p at q) + times k (opened n b v) ≡ times k p + times k q
  times_turned k (split m r a l h) (open_low at) q = let e = times_turned k l at q in omega arith
  times_turned k (split m r a l h) (open_high at) q = let e = times_turned k h at q in omega arith
  times_turned k (closed m leaf) at q = elim at [ ]
  times_turned k (opened m c w) open_here q = omega arith

  -- the open leaf is one node with its number
  pub times_open : (p : Plan T) → HasOpen n b v p → 1 ≤ times n p
  times_open (split m r a l h) (open_low at) = let e = times_open l at in omega arith
  times_open (split m r a l h) (open_high at) = let e = times_open h at in omega arith
  times_open (closed m leaf) at = elim at [ ]
  times_open (opened m c w) open_here = grind (arith, common_steps)

  -- what a sum over the open leaves loses and gains
  pub sum_turned : (f : ℕ × ℕ → ℕ) (p : Plan T) (at : HasOpen n b v p) (q : Plan T) → sum_by f (entries (turned p at q)) + f (b, n) ≡ sum_by f (entries p) + sum_by f (entries q)
  sum_turned f (split m r a l h) (open_low at) q =
      let e = sum_turned f l at q in
      let x = sum_by-append f (entries (turned l at q)) (entries h) in
      let y = sum_by-append f (entries l) (entries h) in
      omega arith
  sum_turned f (split m r a l h) (open_high at) q =
      let e = sum_turned f h at q in
      let x = sum_by-append f (entries l) (entries (turned h at q)) in
      let y = sum_by-append f (entries l) (entries h) in
      omega arith
  sum_turned f (closed m leaf) at q = elim at [ ]
  sum_turned f (opened m c w) open_here q = omega arith

  -- the turned tree stands in the table where only that number was written anew
  pub stands_turned : (slots later : List (Slot T)) (p : Plan T) (at : HasOpen n b v p) (q : Plan T)
      → Agree slots later n → times n p ≤ 1 → number_of q ≡ n → Stands later q → Stands slots p → Stands later (turned p at q)
  stands_turned slots later (split m r a l h) (open_low at) q agree once e new s =
      let some = times_open l at in (
        rw (number_kept l at q e) (agree m _ (grind (arith, common_steps)) s.0),
        rw (number_kept l at q e) s.1,
        rw (number_kept l at q e) s.2,
        stands_turned slots later l at q agree (omega arith) e new s.3,
        stands_kept slots later n h agree (omega arith) s.4,
      )
  stands_turned slots later (split m r a l h) (open_high at) q agree once e new s =
      let some = times_open h at in (
        agree m _ (grind (arith, common_steps)) s.0,
        number_kept h at q e ∙ s.1,
        s.2,
        stands_kept slots later n l agree (omega arith) s.3,
        stands_turned slots later h at q agree (omega arith) e new s.4,
      )
  stands_turned slots later (closed m leaf) at q agree once e new s = elim at [ ]
  stands_turned slots later (opened m c w) open_here q agree once e new s = new

-- an entry of the tree is that of an open leaf
pub open_listed : {T : Type 0} (p : Plan T) (e : ℕ × ℕ) → Contains (entries p) e → (v : T) × HasOpen e.1 e.0 v p
open_listed (split m r a l h) e c =
    ⊎_elim (λ x. let at = open_listed l e x in (at.0, open_low at.1))
    (λ x. let at = open_listed h e x in (at.0, open_high at.1))
    (Contains-append_cases (entries l) (entries h) e c)
open_listed (closed m leaf) e c = let l = c.1 in absurd (omega arith)
open_listed (opened m b v) e (zero, l, q) = (v, subst (λ x. HasOpen x.1 x.0 v (opened m b v)) q open_here)
open_listed (opened m b v) e (suc k, l, q) = absurd (omega arith)
