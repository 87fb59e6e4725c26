-- Each state that steps reach is sound.
use Rattle.std.specs.Prelude.{slice_get, slice_index, ⊤}
use Rattle.std.specs.Option.{IfSome, IsSomeAnd}
use Rattle.std.proofs.Common.{◌≡◌, ℕ, zero, suc, ◌<◌, ◌≤◌, length, ◌⊎◌, inl, inr, List, [], Option, Some, None, arith, ap, refl, sym, subst}
use Rattle.std.proofs.lemmas.Bool.{cases_eq, cases_lt}
use Rattle.std.proofs.lemmas.Option.{slice_get_past}
use Rattle.coord_model.specs.Choice.{Settings}
use Rattle.coord_model.specs.Tree.{Single, Tree, bound, empty, hair, open_leaf, split, void}
use Rattle.coord_model.specs.TreeLimits.{FitLeaves}
use Rattle.coord_model.specs.declared.weights.Weight.{Weight}
use Rattle.coord_model.specs.declared.tree.NodeLine.{NodeLine}
use Rattle.coord_model.specs.declared.tree.NodeLine.TheVariants as Line
use Rattle.margin_rows.specs.Box.{AreIn, Box, FitsBox, HasEmptySpan, HasNoEmptySpan, IsIn}
use Rattle.margin_rows.specs.declared.span.Steps.{Steps}
use Rattle.margin_rows.specs.Case.{Case}
use Rattle.margin_rows.specs.Least.{IsStrictLeast, IsStrictLeastOf}
use Rattle.cert_tree.specs.Endings.{boxes}
use Rattle.step_rules.specs.Offers.{IsAdvisedOffer, lowest_pickups, offered}
use Rattle.step_rules.specs.Premises.{Advised, IsAsked, IsSingle}
use Rattle.step_rules.specs.Rules.{Handled, closed, closed_later, divided, emptied, single_closed, single_open, voided, weighed}
use Rattle.step_rules.specs.Usable.{LeafWeights, open_with, plain_weights}
use Rattle.branch_bound.specs.Facts.{AreNoDearer, Every, IsCovered, IsFair, IsFairTree, IsSound, Owes, ReachesCutoff}
use Rattle.branch_bound.specs.Machine.{IsStep, State, Turns, first_state, here, in_high, in_low}
use Rattle.branch_bound.proofs.Handling.{handled_fair, handled_leaves, none_named, none_stand, open_fair}
use Rattle.branch_bound.proofs.Offering.{as_dear, no_dearer, offer_keeps, offer_no_dearer, still_reaches}
use Rattle.branch_bound.proofs.Turning.{every_turns}

-- each number below another has a property, or one has not
pub all_or_not : (P : ℕ → Type 0) → ((i : ℕ) → P i ⊎ ¬ (P i)) → (n : ℕ) → ((i : ℕ) → i < n → P i) ⊎ ((i : ℕ) × ¬ (P i))
all_or_not P test zero = inl (λ i below. absurd (omega (arith, below)))
all_or_not P test (suc n) = elim (all_or_not P test n) [
  | inr one ↦ inr one
  | inl before ↦ elim (test n) [
    | inr fails ↦ inr (n, fails)
    | inl holds ↦ inl (λ i below. elim (cases_lt i n) [
      | inl earlier ↦ before i earlier
      | inr last ↦ let same : n ≡ i = omega (arith, below, last) in subst P same holds
    ])
  ]
]

-- pickups are in their spans, or they are not
in_or_not : (spans : List Steps) (steps : List ℕ) → AreIn spans steps ⊎ ¬ (AreIn spans steps)
in_or_not spans steps = elim (cases_eq (length steps) (length spans)) [
  | inr apart ↦ inr (λ is. apart is.count)
  | inl count ↦ elim (all_or_not P one (length spans)) [
    | inl each ↦ inl (record { count = count; each = λ i. elim (cases_lt i (length spans)) [ inl below ↦ each i below | inr past ↦ rw (slice_get_past spans i past) tt ] })
    | inr fails ↦ inr (λ is. fails.1 (is.each fails.0))
  ]
]
  where
    P : ℕ → Type 0
    P i = IfSome (slice_get spans i) (λ span. IsIn span (slice_index steps i))

    one : (i : ℕ) → P i ⊎ ¬ (P i)
    one i = go (slice_get spans i)
      where
        go : (o : Option Steps) → IfSome o (λ span. IsIn span (slice_index steps i)) ⊎ ¬ (IfSome o (λ span. IsIn span (slice_index steps i)))
        go None = inl tt
        go (Some span) = elim (cases_lt (slice_index steps i) span.low) [
          | inl under ↦ inr (λ is. omega (arith, is.from, under))
          | inr from ↦ elim (cases_lt (slice_index steps i) span.past) [
            | inl before ↦ inl (record { from = from; before = before })
            | inr past ↦ inr (λ is. omega (arith, is.before, past))
          ]
        ]

-- the settings, if there are any, are the strict-least of their pickups
abbrev pub IsOwnLeast : Case → Option Settings → Type 0
IsOwnLeast case issued = IfSome issued (λ held. IsStrictLeast case held.pickup held)

own_least : (case : Case) (pickups : List ℕ) (offer : Option Settings) → IsStrictLeastOf case pickups offer → IsOwnLeast case offer
own_least case pickups None is = tt
own_least case pickups (Some offer) is = subst (λ (ps : List ℕ). IsStrictLeast case ps offer) (sym is.meet.same_pickups) is

advised_least : (case : Case) (box : Box) (pickups : List ℕ) (offer : Option Settings) → IsAdvisedOffer case box pickups offer → IsOwnLeast case offer
advised_least case box pickups None is = tt
advised_least case box pickups (Some offer) is = elim (in_or_not box.pickup pickups) [
  | inl inside ↦ own_least case pickups (Some offer) (is.inside inside)
  | inr outside ↦ absurd (subst (λ (o : Option Settings). IsSomeAnd o (λ s. ⊤)) (is.outside outside) tt)
]

module _ (case : Case) (gap : ℕ) (issued later : Option Settings) where
  single_no_dearer : {tight : Box} → IsSingle case tight issued later → AreNoDearer case issued later
  single_no_dearer single = rw single.now (offer_no_dearer case issued single.offer)

  asked_no_dearer : {tight : Box} {advised : Advised} → IsAsked case gap tight advised issued later → AreNoDearer case issued later
  asked_no_dearer asked =
      rw asked.now (no_dearer case issued (offered case issued asked.first) (offered case (offered case issued asked.first) asked.second)
      (offer_no_dearer case issued asked.first) (offer_no_dearer case (offered case issued asked.first) asked.second))

  -- strict-least settings of their pickups stay so
  single_least : {tight : Box} → IsSingle case tight issued later → IsOwnLeast case issued → IsOwnLeast case later
  single_least {tight} single least = rw single.now (offer_keeps case (λ held. IsStrictLeast case held.pickup held) issued single.offer least (own_least case (lowest_pickups tight) single.offer single.least))

  asked_least : {tight : Box} {advised : Advised} → IsAsked case gap tight advised issued later → IsOwnLeast case issued → IsOwnLeast case later
  asked_least {tight} {advised} asked least =
      let P : Settings → Type 0 = λ held. IsStrictLeast case held.pickup held in
      let first = offer_keeps case P issued asked.first least (advised_least case tight advised.pickups asked.first asked.is_first) in
      rw asked.now (offer_keeps case P (offered case issued asked.first) asked.second first (own_least case (lowest_pickups tight) asked.second asked.is_second))

module _ (case : Case) (gap : ℕ) (box : Box) (own : LeafWeights) (issued : Option Settings) where
  -- what is issued after a box is handled costs no more than before
  pub handled_no_dearer : (later : Option Settings) (tree : Tree) → Handled case gap box own issued later tree → AreNoDearer case issued later
  handled_no_dearer later tree (emptied gone) = as_dear case issued
  handled_no_dearer later tree (single_closed to single plain) = single_no_dearer case gap issued later single
  handled_no_dearer later tree (single_open to single misses first) = single_no_dearer case gap issued later single
  handled_no_dearer later tree (closed to several plain) = as_dear case issued
  handled_no_dearer later tree (closed_later to asked plain) = asked_no_dearer case gap issued later asked
  handled_no_dearer later tree (voided to undecided is) = asked_no_dearer case gap issued later undecided.asked
  handled_no_dearer later tree (weighed to undecided no_void by) = asked_no_dearer case gap issued later undecided.asked
  handled_no_dearer later tree (divided to undecided no_void no_bound is) = asked_no_dearer case gap issued later undecided.asked

  -- and is the strict-least of its pickups
  pub handled_least : (later : Option Settings) (tree : Tree) → Handled case gap box own issued later tree → IsOwnLeast case issued → IsOwnLeast case later
  handled_least later tree (emptied gone) least = least
  handled_least later tree (single_closed to single plain) least = single_least case gap issued later single least
  handled_least later tree (single_open to single misses first) least = single_least case gap issued later single least
  handled_least later tree (closed to several plain) least = least
  handled_least later tree (closed_later to asked plain) least = asked_least case gap issued later asked least
  handled_least later tree (voided to undecided is) least = asked_least case gap issued later undecided.asked least
  handled_least later tree (weighed to undecided no_void by) least = asked_least case gap issued later undecided.asked least
  handled_least later tree (divided to undecided no_void no_bound is) least = asked_least case gap issued later undecided.asked least

  -- one box more was worked on
  pub handled_boxes : (later : Option Settings) (tree : Tree) → Handled case gap box own issued later tree → boxes tree ≡ 1
  handled_boxes later tree (emptied gone) = refl
  handled_boxes later tree (single_closed to single plain) = refl
  handled_boxes later tree (single_open to single misses first) = refl
  handled_boxes later tree (closed to several plain) = refl
  handled_boxes later tree (closed_later to asked plain) = refl
  handled_boxes later tree (voided to undecided is) = refl
  handled_boxes later tree (weighed to undecided no_void by) = refl
  handled_boxes later tree (divided to undecided no_void no_bound is) = refl

-- what a fair node is owed is still there when what is issued costs no more
covered_map : (case : Case) (before after : Option Settings) (box : Box) → AreNoDearer case before after → IsCovered case before box → IsCovered case after box
covered_map case before after box less is = record {
  tight = is.tight;
  is_tight = is.is_tight;
  offer = is.offer;
  least = is.least;
  no_dearer = no_dearer case is.offer before after is.no_dearer less;
}

reaches_map : (case : Case) (gap : ℕ) (before after : Option Settings) (box : Box) (weights : LeafWeights) → AreNoDearer case before after → ReachesCutoff case gap before box weights → ReachesCutoff case gap after box weights
reaches_map case gap before after box weights less is = record {
  tight = is.tight;
  is_tight = is.is_tight;
  bound = is.bound;
  gives = is.gives;
  reaches = still_reaches case gap is.bound before after less is.reaches;
}

owes_map : (case : Case) (gap : ℕ) (before after : Option Settings) (box : Box) (node : Single) (line : NodeLine) → AreNoDearer case before after → Owes case gap before box node line → Owes case gap after box node line
owes_map case gap before after box node (Line.Split relay at) less is = covered_map case before after box less is
owes_map case gap before after box node Line.Empty less is = is
owes_map case gap before after box node Line.Void less is = is
owes_map case gap before after box node (Line.Bound lambda) less is = reaches_map case gap before after box _ less is
owes_map case gap before after box node (Line.Hair row) less is = covered_map case before after box less is
owes_map case gap before after box node (Line.OpenLeaf lambda) less is = is

pub fair_map : (case : Case) (gap : ℕ) (before after : Option Settings) → AreNoDearer case before after → (box : Box) (node : Single) → IsFair case gap before box node → IsFair case gap after box node
fair_map case gap before after less box node fair = record { right = fair.right; owes = owes_map case gap before after box node node.line less fair.owes }

-- a turn is one box more
pub turn_boxes : (case : Case) (R : Box → LeafWeights → Tree → Type 0) (box : Box) (before after : Tree) → ((b : Box) (own : LeafWeights) (later : Tree) → R b own later → boxes later ≡ 1)
    → Turns case R box before after → boxes after ≡ suc (boxes before)
turn_boxes case R box before after one (here {own = own} {later = later} r) = one box own later r
turn_boxes case R box before after one (in_low {low = l} {high = h} {relay = relay} {at = at} {below = below} {above = above} {later = later} halves turns) =
    let more = turn_boxes case R l below later one turns in omega (arith, more)
turn_boxes case R box before after one (in_high {low = l} {high = h} {relay = relay} {at = at} {below = below} {above = above} {later = later} halves turns) =
    let more = turn_boxes case R h above later one turns in omega (arith, more)

-- what is issued follows from some box that was handled
turn_handled : (case : Case) (gap : ℕ) (issued later : Option Settings) (P : Type 0) (box : Box) (before after : Tree)
    → ((b : Box) (own : LeafWeights) (tree : Tree) → Handled case gap b own issued later tree → P)
    → Turns case (λ b own tree. Handled case gap b own issued later tree) box before after → P
turn_handled case gap issued later P box before after f (here {own = own} {later = tree} r) = f box own tree r
turn_handled case gap issued later P box before after f (in_low {low = l} {high = h} {below = below} {later = tree} halves turns) = turn_handled case gap issued later P l below tree f turns
turn_handled case gap issued later P box before after f (in_high {low = l} {high = h} {above = above} {later = tree} halves turns) = turn_handled case gap issued later P h above tree f turns

-- the weights of the leaves stay within the limits
turn_leaves : (case : Case) (gap : ℕ) (issued later : Option Settings) (box : Box) (before after : Tree) → FitLeaves before
    → Turns case (λ b own tree. Handled case gap b own issued later tree) box before after → FitLeaves after
turn_leaves case gap issued later box before after fit (here {own = own} {later = tree} r) = handled_leaves case gap box own issued later tree fit r
turn_leaves case gap issued later box before after fit (in_low {low = l} {high = h} {below = below} {later = tree} halves turns) = (turn_leaves case gap issued later l below tree fit.0 turns, fit.1)
turn_leaves case gap issued later box before after fit (in_high {low = l} {high = h} {above = above} {later = tree} halves turns) = (fit.0, turn_leaves case gap issued later h above tree fit.1 turns)

-- the tree is a split
abbrev OnSplit : Tree → Type 0
OnSplit (split r a low high) = ⊤
OnSplit empty = ⊥
OnSplit (void w) = ⊥
OnSplit (bound l w) = ⊥
OnSplit (hair r) = ⊥
OnSplit (open_leaf l w) = ⊥

-- the weights of an open leaf
abbrev rows_of : Tree → List Weight
rows_of (split r a low high) = []
rows_of empty = []
rows_of (void w) = w
rows_of (bound l w) = w
rows_of (hair r) = []
rows_of (open_leaf l w) = w

own_rows : (own : LeafWeights) → open_with own ≡ open_leaf 1 [] → own.rows ≡ []
own_rows own is = ap rows_of is

module _ (case : Case) (first : Box) (gap budget : ℕ) (fits : FitsBox case first) where
  -- the first state is sound, if the budget has room for a box
  pub first_sound : HasEmptySpan first ⊎ HasNoEmptySpan first → IsSound case first gap budget first_state
  first_sound empty_or_not = record {
    fair = elim empty_or_not [
      | inl gone ↦ inl (refl, gone)
      | inr steps ↦ inr (open_fair case gap first None plain_weights steps (none_named case))
    ];
    leaves = none_stand;
    least = tt;
    within = omega arith;
  }

  -- a step leads from a sound state to a sound one
  pub step_sound : (before after : State) → IsStep case first gap budget before after → IsSound case first gap budget before → IsSound case first gap budget after
  step_sound before after step sound = record {
    fair = inr (fair_after sound.fair);
    leaves = turn_leaves case gap before.issued after.issued first before.tree after.tree sound.leaves step.turned;
    least = turn_handled case gap before.issued after.issued _ first before.tree after.tree (λ b own tree handled. handled_least case gap b own before.issued after.issued tree handled sound.least) step.turned;
    within = room (boxes before.tree) (boxes after.tree) (turn_boxes case _ first before.tree after.tree (λ b own tree handled. handled_boxes case gap b own before.issued after.issued tree handled) step.turned)
        sound.within (λ spent. step.goes_on (inr spent));
  }
    where
      room : (m n : ℕ) → n ≡ suc m → m ≤ budget → ¬ (m ≡ budget) → n ≤ budget
      room m n is within apart = elim (cases_eq m budget) [
        | inl same ↦ absurd (apart same)
        | inr other ↦ omega (arith, is, within, other)
      ]

      less : AreNoDearer case before.issued after.issued
      less =
          turn_handled case gap before.issued after.issued (AreNoDearer case before.issued after.issued) first before.tree after.tree
          (λ b own tree handled. handled_no_dearer case gap b own before.issued after.issued tree handled) step.turned

      root_turned : (tree turned : Tree) → tree ≡ open_leaf 1 [] → Turns case (λ box own later. Handled case gap box own before.issued after.issued later) first tree turned → Every case (IsFair case gap after.issued) first turned
      root_turned tree turned is (here {own = own} {later = later} handled) = handled_fair case gap first own before.issued after.issued later fits (rw (own_rows own is) (none_named case)) handled
      root_turned tree turned is (in_low halves turns) = absurd (subst OnSplit is tt)
      root_turned tree turned is (in_high halves turns) = absurd (subst OnSplit is tt)

      fair_after : IsFairTree case first gap before → Every case (IsFair case gap after.issued) first after.tree
      fair_after (inr all) =
          every_turns case (IsFair case gap before.issued) (IsFair case gap after.issued) (λ box own later. Handled case gap box own before.issued after.issued later) first before.tree after.tree
          (λ b node fair. fair.right) (fair_map case gap before.issued after.issued less)
          (λ b own later fit fair handled. handled_fair case gap b own before.issued after.issued later fit fair.right.names.weighed handled) fits step.turned all
      fair_after (inl still) = root_turned before.tree after.tree still.0 step.turned
