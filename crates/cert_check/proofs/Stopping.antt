-- Bytes, the lines that they begin with, and where they stop being a certificate.
use Rattle.std.proofs.Common.{◌≡◌, ◌≢◌, ℕ, ◌+◌, ◌≤◌, ◌==◌, true, false, not, List, [], ◌∷◌, ◌++◌, length, map, refl, sym, ap, ◌∙◌, subst, arith, append_assoc, append-nil, length-append}
use Rattle.std.proofs.lemmas.Bool.Decides.{nat_tests}
use Rattle.std.proofs.lemmas.List.{length-map}
use Rattle.std.specs.List.{AllByRecursion, list_all}
use Rattle.std.specs.Prelude.{codes}
use Rattle.coord_model.specs.Tree.{Tree, nodes_of}
use Rattle.cert_text.specs.Forests.{forest}
use Rattle.coord_text.specs.Claims.{text_of}
use Rattle.coord_text.specs.Lines.{IsLine, is_printable}
use Rattle.coord_text.proofs.Breaks.{both_pass, no_feed, same_cut, same_first_line}
use Rattle.cert_text.specs.CertData.{CertData, IsCert}
use Rattle.cert_text.specs.CertText.{cert_lines, cert_text, head_lines, opening, settings_line}
use Rattle.cert_text.specs.Nodes.{node_line}
use Rattle.cert_text.specs.Scanning.{Begins, Reached, ReachedAt, State}
use Rattle.cert_text.specs.declared.kinds.CertKind.{CertKind}
use Rattle.cert_text.specs.declared.kinds.CertKind.TheVariants as kind
use Rattle.cert_text.proofs.Beginnings.{begins_at}
use Rattle.cert_text.proofs.CertLines.{cert_are_lines}
use Rattle.cert_text.proofs.NodeSteps.{ahead_of}
use Rattle.cert_text.proofs.Walks.{root_first}
use Rattle.cert_check.specs.BadLines.{HasBadLine, HasNoFeed}
use Rattle.cert_text.specs.Stops.{StopsAt}
use Rattle.cert_check.proofs.NodeLines.{at_end, due_of, head_few, in_head, in_nodes, opening_few, six_lines}

-- text of lines in parts
pub text_more : (lines : List (List ℕ)) (line : List ℕ) → text_of (lines ++ line ∷ []) ≡ text_of lines ++ (line ++ 10 ∷ [])
text_more [] line = append-nil (line ++ 10 ∷ [])
text_more (l ∷ ls) line = ap (λ (t : List ℕ). (l ++ 10 ∷ []) ++ t) (text_more ls line) ∙ sym (append_assoc (l ++ 10 ∷ []) (text_of ls) (line ++ 10 ∷ []))

text_first : (l : List ℕ) (ls : List (List ℕ)) → text_of (l ∷ ls) ≡ l ++ 10 ∷ text_of ls
text_first l ls = append_assoc l (10 ∷ []) (text_of ls)

all_front : (xs ys : List (List ℕ)) → AllByRecursion IsLine (xs ++ ys) → AllByRecursion IsLine xs
all_front [] ys all = tt
all_front (x ∷ xs) ys all = (all.0, all_front xs ys all.1)

all_first : (xs ys : List (List ℕ)) (x : List ℕ) → AllByRecursion IsLine (xs ++ x ∷ ys) → IsLine x
all_first [] ys x all = all.0
all_first (y ∷ xs) ys x all = all_first xs ys x all.1

-- lines that begin a certificate are lines, and so is one that goes on with them
pub begun_are_lines : (lines : List (List ℕ)) → Begins lines → AllByRecursion IsLine lines
begun_are_lines lines b = all_front lines b.more (subst (λ (ls : List (List ℕ)). AllByRecursion IsLine ls) b.parts (cert_are_lines b.cert b.is))

pub begun_is_line : (lines : List (List ℕ)) (line : List ℕ) → Begins (lines ++ line ∷ []) → IsLine line
begun_is_line lines line b = all_first lines [] line (begun_are_lines (lines ++ line ∷ []) b)

-- a certificate has few lines
cert_count : (cert : CertData) → length (cert_lines cert) ≡ length (opening cert.head.study) + 8 + length (nodes_of cert.tree)
cert_count cert =
    omega (
      arith,
      length-append (head_lines cert.head) (settings_line cert.settings ∷ (map node_line (nodes_of cert.tree) ++ codes "end" ∷ [])),
      length-append (opening cert.head.study) (six_lines cert.head),
      length-append (map node_line (nodes_of cert.tree)) (codes "end" ∷ []),
      length-map (nodes_of cert.tree) node_line,
    )

pub lines_few : (lines : List (List ℕ)) → Begins lines → length lines ≤ 400011
lines_few lines b = omega (arith, cert_count b.cert, ap length b.parts, length-append lines b.more, opening_few b.cert.head.study, b.is.tree.nodes)

-- what is left of lines whose text begins with that of others
pub record GoesOn (xs lines : List (List ℕ)) (left : List ℕ) : Type 0 where
  pub more : List (List ℕ)
  pub parts : xs ≡ lines ++ more
  pub rest : left ≡ text_of more

goes_on : (xs lines : List (List ℕ)) (left : List ℕ) → AllByRecursion IsLine xs → AllByRecursion IsLine lines → text_of xs ≡ text_of lines ++ left → GoesOn xs lines left
goes_on xs [] left of_xs of_lines same = record { more = xs; parts = refl; rest = sym same }
goes_on [] (l ∷ ls) left of_xs of_lines same =
    absurd (omega (arith, ap length same, length-append (text_of (l ∷ ls)) left, length-append (l ++ 10 ∷ []) (text_of ls), length-append l (10 ∷ [])))
goes_on (x ∷ xs) (l ∷ ls) left of_xs of_lines same =
    let cut : x ++ 10 ∷ text_of xs ≡ l ++ 10 ∷ (text_of ls ++ left) =
    sym (text_first x xs) ∙ same ∙ ap (λ (t : List ℕ). t ++ left) (text_first l ls) ∙ append_assoc l (10 ∷ text_of ls) left in
    let first = same_first_line x l (text_of xs) (text_of ls ++ left) of_xs.0 of_lines.0 cut in
    let rest = goes_on xs ls left of_xs.1 of_lines.1 first.1 in
    record { more = rest.more; parts = ap (λ (y : List ℕ). y ∷ xs) first.0 ∙ ap (λ (ys : List (List ℕ)). l ∷ ys) rest.parts; rest = rest.rest }

some_nodes : (t : Tree) → 1 ≤ length (nodes_of t)
some_nodes t = omega (arith, ap length (root_first t []), length-append (nodes_of t) [])

-- a whole certificate has its last line
not_whole : (due : CertKind) (s : State) (lines : List (List ℕ)) (cert : CertData) → due ≢ kind.After → ReachedAt due s lines → IsCert cert → cert_lines cert ≢ lines
not_whole due s lines cert other to is same = elim (due_of due s lines to) [
  | in_head front head gives ↦ omega (arith, head_few due front s.head lines head, ap length same, cert_count cert, opening_few cert.head.study, some_nodes cert.tree)
  | in_nodes nodes gives ↦
      let ahead = ahead_of s lines [] nodes cert is (same ∙ sym (append-nil lines)) in
      omega (arith, ap length ahead.parts, length-append (map node_line (forest ahead.left)) (codes "end" ∷ []))
  | at_end after before nodes parts gives ↦ other after
]

-- a line that stands before a line feed, and has none
no_feed_tests : (line : List ℕ) → HasNoFeed line → list_all (λ b. not (b == 10)) line ≡ true
no_feed_tests [] none = refl
no_feed_tests (b ∷ bs) none = let here : not (b == 10) ≡ true = grind (arith, nat_tests, none.0) in rw (here, no_feed_tests bs none.1) refl

-- a line has no line feed
printable_no_feed : (line : List ℕ) → list_all is_printable line ≡ true → HasNoFeed line
printable_no_feed [] is = tt
printable_no_feed (b ∷ bs) is =
    let parts = both_pass (is_printable b) (list_all is_printable bs) is in
    (λ same. (let e : (b == 10) ≡ false = no_feed b parts.0 in grind (arith, nat_tests)), printable_no_feed bs parts.1)

-- two texts cut at their first line feeds
first_same : (x y r s : List ℕ) → HasNoFeed x → IsLine y → x ++ 10 ∷ r ≡ y ++ 10 ∷ s → x ≡ y
first_same x y r s none is same = (same_cut 10 x y r s (no_feed_tests x none) (no_feed_tests y (printable_no_feed y is.printable)) same).0

-- a text without a line feed has no line
no_line : (left here rest : List ℕ) → HasNoFeed left → left ≢ here ++ 10 ∷ rest
no_line [] here rest none same = absurd (omega (arith, ap length same, length-append here (10 ∷ rest)))
no_line (b ∷ bs) [] rest none same = none.0 (cc same)
no_line (b ∷ bs) (h ∷ hs) rest none same = no_line bs hs rest none.1 (cc same)

-- bytes are no certificate if no line goes on with those before it, and those are none
no_cert : (bytes left : List ℕ) (lines : List (List ℕ)) (cert : CertData) → bytes ≡ text_of lines ++ left → Begins lines
    → ((here rest : List ℕ) → IsLine here → left ≡ here ++ 10 ∷ rest → ¬ Begins (lines ++ here ∷ [])) → (left ≡ [] → cert_lines cert ≢ lines) → IsCert cert → bytes ≢ cert_text cert
no_cert bytes left lines cert parts begins stops none is text = go on.more on.parts on.rest
  where
    of_cert : AllByRecursion IsLine (cert_lines cert)
    of_cert = cert_are_lines cert is

    on : GoesOn (cert_lines cert) lines left
    on = goes_on (cert_lines cert) lines left of_cert (begun_are_lines lines begins) (sym text ∙ parts)

    go : (more : List (List ℕ)) → cert_lines cert ≡ lines ++ more → left ≡ text_of more → ⊥
    go [] is_all rest = none rest (is_all ∙ append-nil lines)
    go (y ∷ ys) is_all rest =
        let line : IsLine y = all_first lines ys y (subst (λ (ls : List (List ℕ)). AllByRecursion IsLine ls) is_all of_cert) in
        stops y (text_of ys) line (rest ∙ text_first y ys) (record { cert = cert; is = is; more = ys; parts = is_all ∙ sym (append_assoc lines (y ∷ []) ys) })

-- at the end of the bytes, a line is due, or one has begun
pub ends_early : (bytes left : List ℕ) (lines : List (List ℕ)) (s : State) (line : ℕ) (due : CertKind) → bytes ≡ text_of lines ++ left → HasNoFeed left → Reached s lines
    → line ≡ length lines + 1 → due ≡ s.due → (left ≡ [] → s.due ≢ kind.After) → StopsAt bytes line due
ends_early bytes left lines s line due parts none to number is other =
    let begins = begins_at s.due s lines to in
    let stops : (here rest : List ℕ) → IsLine here → left ≡ here ++ 10 ∷ rest → ¬ Begins (lines ++ here ∷ []) = λ here rest is_line same. absurd (no_line left here rest none same) in
    record {
      no_cert = λ cert is_cert. no_cert bytes left lines cert parts begins stops (λ empty. not_whole s.due s lines cert (other empty) to is_cert) is_cert;
      before = lines;
      left = left;
      parts = parts;
      number = number;
      due = record { begins = begins; state = s; reached = to; is = is };
      stops = stops;
    }

-- bytes with a bad line stop there
pub stops_bad : (bytes : List ℕ) (line : ℕ) (kind : CertKind) → HasBadLine bytes line kind → StopsAt bytes line kind
stops_bad bytes line due has =
    let bad = has.bad in
    let left = has.here ++ 10 ∷ has.rest in
    let stops : (here rest : List ℕ) → IsLine here → left ≡ here ++ 10 ∷ rest → ¬ Begins (has.before ++ here ∷ []) = λ here rest is_line same begun.
    bad.stops (subst (λ (l : List ℕ). Begins (has.before ++ l ∷ [])) (sym (first_same has.here here has.rest rest has.no_feed is_line same)) begun) in
    record {
      no_cert = λ cert is_cert. no_cert bytes left has.before cert has.parts bad.due.begins stops (λ empty. absurd (omega (arith, ap length empty, length-append has.here (10 ∷ has.rest)))) is_cert;
      before = has.before;
      left = left;
      parts = has.parts;
      number = bad.number;
      due = bad.due;
      stops = stops;
    }

-- and they do if more bytes follow
pub bad_more : (read more : List ℕ) (line : ℕ) (kind : CertKind) → HasBadLine read line kind → HasBadLine (read ++ more) line kind
bad_more read more line due has = record {
  before = has.before;
  here = has.here;
  rest = has.rest ++ more;
  parts = ap (λ (t : List ℕ). t ++ more) has.parts ∙ append_assoc (text_of has.before) (has.here ++ 10 ∷ has.rest) more ∙ ap (λ (t : List ℕ). text_of has.before ++ t) (append_assoc has.here (10 ∷ has.rest) more);
  no_feed = has.no_feed;
  bad = has.bad;
}
