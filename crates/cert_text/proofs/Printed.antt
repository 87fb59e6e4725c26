use Rattle.std.proofs.Common.{◌≡◌, ◌≤◌, Option, Some, None, List, [], ◌∷◌, ◌++◌, length, map, Result, Ok, Err, refl, ap, ◌∙◌, arith, length-append}
use Rattle.std.specs.Borrow.{Bor}
use Rattle.std.specs.List.{AllByRecursion}
use Rattle.std.specs.Prelude.{codes, option_to_list, IfSome, OnErr, OnOk}
use Rattle.coord_model.specs.Tree.{Tree, Single, split, empty, void, bound, hair, open_leaf, root, nodes_of, shape}
use Rattle.coord_model.specs.declared.cert.StudyHead.{StudyHead}
use Rattle.coord_model.specs.declared.tree.Node.{Node}
use Rattle.coord_text.specs.Claims.{amount, ending_word}
use Rattle.cert_text.specs.CertData.{CertData, IsCert, IsStudyHead}
use Rattle.cert_text.specs.Forests.{FitPath, below, nodes_on, waiting}
use Rattle.cert_text.specs.LinesLeft.{lines_from}
use Rattle.cert_text.specs.Nodes.{IsNode, node_line}
use Rattle.cert_text.specs.Printing.{first_line, following, front_line, study_words}
use Rattle.cert_text.specs.HeadScan.{IsFront}
use Rattle.cert_text.specs.declared.kinds.CertKind.{CertKind}
use Rattle.cert_text.specs.declared.kinds.CertKind.TheVariants as kind
use Rattle.cert_text.proofs.LineLengths.{amount_short, count_short, ending_short, settings_short, study_short}
use Rattle.cert_text.proofs.Walks.{root_first}

-- what can't fail is done
pub pushed : {A E P Q : Type 0} (r : Result A E) → OnOk r P → OnErr r Q → ¬ Q → P
pushed (Ok x) p q n = p
pushed (Err e) p q n = absurd (n q)

-- what was put on a path last is the first
pub waiting_more : (nodes : List (Bor Node)) (node : Bor Node) → waiting (nodes ++ node ∷ []) ≡ shape node.now ∷ waiting nodes
waiting_more [] node = refl
waiting_more (n ∷ nodes) node = ap (λ l. l ++ shape n.now ∷ []) (waiting_more nodes node)

pub waiting_length : (nodes : List (Bor Node)) → length (waiting nodes) ≡ length nodes
waiting_length [] = refl
waiting_length (n ∷ nodes) = omega (arith, waiting_length nodes, length-append (waiting nodes) (shape n.now ∷ []))

all_parts : (xs ys : List Single) → AllByRecursion IsNode (xs ++ ys) → AllByRecursion IsNode xs × AllByRecursion IsNode ys
all_parts [] ys all = (tt, all)
all_parts (x ∷ xs) ys all = let rest = all_parts xs ys all.1 in ((all.0, rest.0), rest.1)

-- the last of a path is its first tree
pub popped : (before after : List (Bor Node)) (last : Option (Bor Node)) (node : Bor Node) → before ≡ after ++ option_to_list last → last ≡ Some node
    → waiting before ≡ shape node.now ∷ waiting after
popped before after last node parts is =
    ap waiting (parts ∙ ap (λ o. after ++ option_to_list o) is) ∙ waiting_more after node

-- the halves of a split fit where it did
pub fit_below : (t : Tree) (ts : List Tree) → FitPath (t ∷ ts) → FitPath (below t ++ ts)
fit_below (split relay at low high) ts fit =
    let each = all_parts (nodes_of low) (nodes_of high) fit.1.1 in
    (omega (arith, fit.0), each.0, (omega (arith, fit.0), each.1, fit.2))
fit_below empty ts fit = fit.2
fit_below (void weights) ts fit = fit.2
fit_below (bound lambda weights) ts fit = fit.2
fit_below (hair row) ts fit = fit.2
fit_below (open_leaf lambda weights) ts fit = fit.2

pub root_is : (t : Tree) → AllByRecursion IsNode (nodes_of t) → IsNode (root t)
root_is (split relay at low high) all = all.0
root_is empty all = all.0
root_is (void weights) all = all.0
root_is (bound lambda weights) all = all.0
root_is (hair row) all = all.0
root_is (open_leaf lambda weights) all = all.0

-- the root's line is the next one
pub root_next : (t : Tree) (ts : List Tree) → nodes_on (t ∷ ts) ≡ node_line (root t) ∷ nodes_on (below t ++ ts)
root_next t ts = ap (λ ns. map node_line ns ++ codes "end" ∷ []) (root_first t ts)

-- each line of the front is short
first_short : (study : Option StudyHead) → length (first_line study) ≤ 1036
first_short None = omega arith
first_short (Some study) = omega arith

words_short : (study : Option StudyHead) → IfSome study IsStudyHead → length (study_words study) ≤ 1036
words_short None is = omega arith
words_short (Some study) is = study_short study is

pub front_short : (due : CertKind) (cert : CertData) → IsCert cert → length (front_line due cert) ≤ 1036
front_short kind.Format cert is = first_short cert.head.study
front_short kind.Study cert is = words_short cert.head.study is.head.study
front_short kind.Ending cert is = omega (arith, length-append (codes "ending ") (ending_word cert.head.ending), ending_short cert.head.ending)
front_short kind.Gap cert is = count_short (codes "gap ") cert.head.gap (omega arith) (omega (arith, is.head.gap))
front_short kind.Budget cert is = count_short (codes "budget ") cert.head.budget (omega arith) (omega (arith, is.head.budget))
front_short kind.Boxes cert is = count_short (codes "boxes ") cert.head.boxes (omega arith) (omega (arith, is.head.boxes))
front_short kind.Bound cert is = omega (arith, length-append (codes "bound ") (amount cert.head.bound), amount_short cert.head.bound is.head.bound_short)
front_short kind.Cost cert is = omega (arith, length-append (codes "cost ") (amount cert.head.cost), amount_short cert.head.cost is.head.cost_short)
front_short kind.Settings cert is = settings_short cert.settings is.issued.within
front_short kind.Node cert is = settings_short cert.settings is.issued.within
front_short kind.End cert is = settings_short cert.settings is.issued.within
front_short kind.After cert is = settings_short cert.settings is.issued.within

-- and the next one
format_next : (cert : CertData) (study : Option StudyHead) → cert.head.study ≡ study → (trees : List Tree)
    → lines_from kind.Format cert trees ≡ front_line kind.Format cert ∷ lines_from (following kind.Format study) cert trees
format_next cert None is trees = rw is refl
format_next cert (Some study) is trees = rw is refl

pub front_next : (due : CertKind) → IsFront due → (cert : CertData) (trees : List Tree)
    → lines_from due cert trees ≡ front_line due cert ∷ lines_from (following due cert.head.study) cert trees
front_next kind.Format front cert trees = format_next cert cert.head.study refl trees
front_next kind.Study front cert trees = refl
front_next kind.Ending front cert trees = refl
front_next kind.Gap front cert trees = refl
front_next kind.Budget front cert trees = refl
front_next kind.Boxes front cert trees = refl
front_next kind.Bound front cert trees = refl
front_next kind.Cost front cert trees = refl
front_next kind.Settings front cert trees = refl
front_next kind.Node front cert trees = absurd front
front_next kind.End front cert trees = absurd front
front_next kind.After front cert trees = absurd front
