-- What the reader goes over is a text: from each state, what is to come completes the collection
-- that it ends with.
use Rattle.std.proofs.Common.{◌≡◌, ℕ, true, cond, refl, sym, ap, ◌∙◌, subst, ◌==◌, List, [], ◌∷◌}
use Rattle.std.proofs.Common.{◌++◌, append_assoc, inl, inr, Option, Some, None}
use Rattle.std.proofs.lemmas.Bool.{eqb-true}
use Rattle.sgf_tree.specs.declared.lists.Prop.{Prop}
use Rattle.sgf_tree.specs.declared.lists.Node.{Node}
use Rattle.sgf_tree.specs.Trees.{GameTrees, none, tree}
use Rattle.sgf_tree.specs.Grammar.{is_white_space, is_capital, IsFilled, Gap, ContentText}
use Rattle.sgf_tree.specs.Grammar.{ValuesText, PropsText, NodesText, TreesText, HasTree, Text}
use Rattle.sgf_tree.specs.Reading.{join, Branch, Open, State, between, opened, in_node, in_name}
use Rattle.sgf_tree.specs.Reading.{after_name, in_value, escaped, after_value, open_tree, add_node}
use Rattle.sgf_tree.specs.Reading.{close_into, turn, go_on, add_prop, step, run_on, run, begin}
use Rattle.sgf_tree.proofs.Choices.{by_cond, different, append_nil}
use Rattle.sgf_tree.proofs.Forward.{AreCapitals, join-none, join-join}

-- The bytes finish the collection c from open trees that have been read so far, and no gap is
-- first.
abbrev pub Closes : GameTrees → List Branch → List Node → GameTrees → List ℕ → Type 0
Closes c [] nodes kids w = (more_kids : GameTrees) × (c ≡ join kids more_kids)
    × TreesText more_kids w []
Closes c (b ∷ outer) nodes kids w =
    (more_kids : GameTrees) × (behind : List ℕ) × (more : List ℕ)
    × TreesText more_kids w (41 ∷ behind) × Gap behind more × Closes c outer b.nodes
    (join b.kids (tree nodes (join kids more_kids) none)) more

-- the same, from a node with these properties
abbrev pub NodeRest : GameTrees → Open → List Prop → List ℕ → Type 0
NodeRest c o ps w =
    (more_ps : List Prop) × (nodes : List Node) × (line : List ℕ) × (below : List ℕ)
    × PropsText more_ps w line × NodesText nodes line below
    × Closes c o.outer (o.nodes ++ record { props = ps ++ more_ps } ∷ nodes) o.kids below

abbrev pub ValueRest : GameTrees → Open → List Prop → List ℕ → List (List ℕ) → List ℕ → Type 0
ValueRest c o ps n vs w =
    (more : List ℕ) × (more_vs : List (List ℕ)) × (rest : List ℕ) × Gap w more
    × ValuesText more_vs more rest × NodeRest c o (add_prop ps n (vs ++ more_vs)) rest

abbrev pub ContentRest : GameTrees → Open → List Prop → List ℕ → List (List ℕ) → List ℕ
    → List ℕ → Type 0
ContentRest c o ps n vs a w =
    (v : List ℕ) × (gap : List ℕ) × ContentText v w gap
    × ValueRest c o ps n (vs ++ (a ++ v) ∷ []) gap

abbrev pub Rest : GameTrees → State → List ℕ → Type 0
Rest c (between o) w = (more : List ℕ) × Gap w more × Closes c o.outer o.nodes o.kids more
Rest c (opened o) w =
    (more : List ℕ) × (nodes : List Node) × (below : List ℕ) × Gap w more × IsFilled nodes
    × NodesText nodes more below × Closes c o.outer (o.nodes ++ nodes) o.kids below
Rest c (in_node o ps) w = (more : List ℕ) × Gap w more × NodeRest c o ps more
Rest c (in_name o ps n) w =
    (m : List ℕ) × (gap : List ℕ) × (content : List ℕ) × AreCapitals m × (w ≡ m ++ gap)
    × Gap gap (91 ∷ content) × ContentRest c o ps (n ++ m) [] [] content
Rest c (after_name o ps n) w = (content : List ℕ) × Gap w (91 ∷ content)
    × ContentRest c o ps n [] [] content
Rest c (in_value o ps n vs a) w = ContentRest c o ps n vs a w
Rest c (escaped o ps n vs a) w =
    (x : ℕ) × (more : List ℕ) × (w ≡ x ∷ more) × ContentRest c o ps n vs (a ++ x ∷ []) more
Rest c (after_value o ps n vs) w = ValueRest c o ps n vs w

-- from the state that a byte leads to, if it leads to one
abbrev pub Leads : GameTrees → List ℕ → Option State → Type 0
Leads c w None = ⊥
Leads c w (Some t) = Rest c t w

-- a tree that has been read whole is the first of the kids to come
pub tree_before : (c : GameTrees) (outer : List Branch) (nodes : List Node) (kids : GameTrees)
    (ns : List Node) (ks : GameTrees) (from more : List ℕ)
    → ((others : GameTrees) (r : List ℕ) → TreesText others more r → TreesText (tree ns ks others) from r)
    → Closes c outer nodes (join kids (tree ns ks none)) more → Closes c outer nodes kids from
tree_before c [] nodes kids ns ks from more whole (others, e, text) =
    (tree ns ks others, e ∙ join-join kids (tree ns ks none) others, whole others [] text)
tree_before c (b ∷ outer) nodes kids ns ks from more whole (others, behind, next, text, g, closes) = (
  tree ns ks others,
  behind,
  next,
  whole others (41 ∷ behind) text,
  g,
  subst (λ all. Closes c outer b.nodes (join b.kids (tree nodes all none)) next) (join-join kids (tree ns ks none) others) closes,
)

close_back : (c : GameTrees) (outer : List Branch) (nodes : List Node) (kids : GameTrees) (x : ℕ)
    (w : List ℕ) → x ≡ 41 → Leads c w (close_into outer nodes kids)
    → Closes c outer nodes kids (x ∷ w)
close_back c [] nodes kids x w e leads = absurd leads
close_back c (b ∷ outer) nodes kids x w e (more, g, closes) =
    (none, w, more, ap (λ y. y ∷ w) e, g, subst (λ all. Closes c outer b.nodes (join b.kids (tree nodes all none)) more) (sym (join-none kids)) closes)

open_back : (c : GameTrees) (o : Open) (x : ℕ) (w : List ℕ) → x ≡ 40
    → Rest c (opened (open_tree o)) w → Closes c o.outer o.nodes o.kids (x ∷ w)
open_back c o x w e (line, ns, under, g, filled, nodes, (ks, behind, more, kids, g2, closes)) =
    tree_before c o.outer o.nodes o.kids ns ks (x ∷ w) more
    (λ others r text. (w, line, under, behind, more, filled, ap (λ y. y ∷ w) e, g, nodes, kids, g2, text)) closes

pub turn_back : (c : GameTrees) (o : Open) (x : ℕ) (w : List ℕ) → Leads c w (turn o x)
    → Closes c o.outer o.nodes o.kids (x ∷ w)
turn_back c o x w =
    by_cond (λ next. Leads c w next → Closes c o.outer o.nodes o.kids (x ∷ w)) (x == 40)
    (Some (opened (open_tree o))) (cond (x == 41) (close_into o.outer o.nodes o.kids) None)
    (λ e. open_back c o x w (eqb-true x 40 e))
    (λ _. by_cond (λ next. Leads c w next → Closes c o.outer o.nodes o.kids (x ∷ w)) (x == 41) (close_into o.outer o.nodes o.kids) None
    (λ e. close_back c o.outer o.nodes o.kids x w (eqb-true x 41 e))
    (λ _ never. absurd never))

letter_back : (c : GameTrees) (o : Open) (ps : List Prop) (x : ℕ) (w : List ℕ) → is_capital x ≡ true
    → Rest c (in_name o ps (x ∷ [])) w → NodeRest c o ps (x ∷ w)
letter_back c o ps x w capital
    (m, gap, content, capitals, e, g, (v, gap2, text, (more, vs, rest, g2, values, (more_ps, nodes, line, below, props, ns, closes)))) =
    let p : Prop = record { name = x ∷ m; values = v ∷ vs } in (
      p ∷ more_ps,
      nodes,
      line,
      below,
      (rest, (gap, 91 ∷ content, (tt, (capital, capitals)), tt, ap (λ y. x ∷ y) e, g, (gap2, more, (content, refl, text), g2, values)), props),
      ns,
      subst (λ qs. Closes c o.outer (o.nodes ++ record { props = qs } ∷ nodes) o.kids below)
          (append_assoc ps (p ∷ []) more_ps) closes,
    )

semicolon_back : (c : GameTrees) (o : Open) (ps : List Prop) (x : ℕ) (w : List ℕ) → x ≡ 59
    → Rest c (in_node (add_node o ps) []) w → NodeRest c o ps (x ∷ w)
semicolon_back c o ps x w e (more, g, (more_ps, nodes, line, below, props, ns, closes)) =
    let n : Node = record { props = more_ps } in
    let first : Node = record { props = ps } in
    let grouped = subst (λ all. Closes c o.outer all o.kids below)
    (append_assoc o.nodes (first ∷ []) (n ∷ nodes)) closes in (
      [],
      n ∷ nodes,
      x ∷ w,
      below,
      refl,
      (line, (w, more, ap (λ y. y ∷ w) e, g, props), ns),
      subst (λ qs. Closes c o.outer (o.nodes ++ record { props = qs } ∷ (n ∷ nodes)) o.kids below)
          (sym (append_nil ps)) grouped,
    )

turned_back : (c : GameTrees) (o : Open) (ps : List Prop) (x : ℕ) (w : List ℕ)
    → Leads c w (turn (add_node o ps) x) → NodeRest c o ps (x ∷ w)
turned_back c o ps x w leads = (
  [],
  [],
  x ∷ w,
  x ∷ w,
  refl,
  refl,
  subst (λ qs. Closes c o.outer (o.nodes ++ record { props = qs } ∷ []) o.kids (x ∷ w))
      (sym (append_nil ps)) (turn_back c (add_node o ps) x w leads),
)

pub go_on_back : (c : GameTrees) (o : Open) (ps : List Prop) (x : ℕ) (w : List ℕ)
    → Leads c w (go_on o ps x) → NodeRest c o ps (x ∷ w)
go_on_back c o ps x w =
    let ends = turn (add_node o ps) x in
    by_cond (λ next. Leads c w next → NodeRest c o ps (x ∷ w)) (is_capital x)
    (Some (in_name o ps (x ∷ []))) (cond (x == 59) (Some (in_node (add_node o ps) [])) ends)
    (λ e. letter_back c o ps x w e)
    (λ _. by_cond (λ next. Leads c w next → NodeRest c o ps (x ∷ w)) (x == 59) (Some (in_node (add_node o ps) [])) ends
    (λ e. semicolon_back c o ps x w (eqb-true x 59 e))
    (λ _. turned_back c o ps x w))

-- behind a name: white space, and then the `[` of a value
bracket_back : (c : GameTrees) (o : Open) (ps : List Prop) (n : List ℕ) (x : ℕ) (w : List ℕ)
    → Leads c w (step (after_name o ps n) x) → Rest c (after_name o ps n) (x ∷ w)
bracket_back c o ps n x w =
    by_cond (λ next. Leads c w next → Rest c (after_name o ps n) (x ∷ w)) (is_white_space x)
    (Some (after_name o ps n)) (cond (x == 91) (Some (in_value o ps n [] [])) None)
    (λ e found. (found.0, inr (e, found.1), found.2))
    (λ _. by_cond (λ next. Leads c w next → Rest c (after_name o ps n) (x ∷ w)) (x == 91) (Some (in_value o ps n [] [])) None
    (λ e found. (w, inl (ap (λ y. y ∷ w) (eqb-true x 91 e)), found))
    (λ _ never. absurd never))

name_ends : (c : GameTrees) (o : Open) (ps : List Prop) (n : List ℕ) (w : List ℕ)
    → Rest c (after_name o ps n) w → Rest c (in_name o ps n) w
name_ends c o ps n w (content, g, found) =
    ([], w, content, tt, refl, g, subst (λ m. ContentRest c o ps m [] [] content) (sym (append_nil n)) found)

plain_back : (c : GameTrees) (o : Open) (ps : List Prop) (n : List ℕ) (vs : List (List ℕ))
    (a : List ℕ) (x : ℕ) (w from : List ℕ)
    → ((v gap : List ℕ) → ContentText v w gap → ContentText (x ∷ v) from gap)
    → ContentRest c o ps n vs (a ++ x ∷ []) w → ContentRest c o ps n vs a from
plain_back c o ps n vs a x w from whole (v, gap, text, found) =
    (x ∷ v, gap, whole v gap text, subst (λ b. ValueRest c o ps n (vs ++ b ∷ []) gap) (append_assoc a (x ∷ []) v) found)

value_ends : (c : GameTrees) (o : Open) (ps : List Prop) (n : List ℕ) (vs : List (List ℕ))
    (a : List ℕ) (x : ℕ) (w : List ℕ) → x ≡ 93 → ValueRest c o ps n (vs ++ a ∷ []) w
    → ContentRest c o ps n vs a (x ∷ w)
value_ends c o ps n vs a x w e found =
    ([], w, ap (λ y. y ∷ w) e, subst (λ b. ValueRest c o ps n (vs ++ b ∷ []) w) (sym (append_nil a)) found)

next_value : (c : GameTrees) (o : Open) (ps : List Prop) (n : List ℕ) (vs : List (List ℕ)) (x : ℕ)
    (w : List ℕ) → x ≡ 91 → ContentRest c o ps n vs [] w → ValueRest c o ps n vs (x ∷ w)
next_value c o ps n vs x w e (v, gap, text, (more, more_vs, rest, g, values, found)) = (
  x ∷ w,
  v ∷ more_vs,
  rest,
  inl refl,
  (gap, more, (w, ap (λ y. y ∷ w) e, text), g, values),
  subst (λ all. NodeRest c o (add_prop ps n all) rest) (append_assoc vs (v ∷ []) more_vs) found,
)

-- a byte before what is to come from the state that it leads to is what is to come
pub back : (c : GameTrees) (s : State) (x : ℕ) (w : List ℕ) → Leads c w (step s x)
    → Rest c s (x ∷ w)
back c (between o) x w =
    by_cond (λ next. Leads c w next → Rest c (between o) (x ∷ w)) (is_white_space x)
    (Some (between o)) (turn o x)
    (λ e found. (found.0, inr (e, found.1), found.2))
    (λ _ found. (x ∷ w, inl refl, turn_back c o x w found))
back c (opened o) x w =
    by_cond (λ next. Leads c w next → Rest c (opened o) (x ∷ w)) (is_white_space x)
    (Some (opened o)) (cond (x == 59) (Some (in_node o [])) None)
    (λ e found. (found.0, found.1, found.2, inr (e, found.3), found.4, found.5, found.6))
    (λ _. by_cond (λ next. Leads c w next → Rest c (opened o) (x ∷ w)) (x == 59) (Some (in_node o [])) None
    (λ e (more, g, (more_ps, nodes, line, below, props, ns, closes)). (
      x ∷ w,
      record { props = more_ps } ∷ nodes,
      below,
      inl refl,
      tt,
      (line, (w, more, ap (λ y. y ∷ w) (eqb-true x 59 e), g, props), ns),
      closes,
    ))
    (λ _ never. absurd never))
back c (in_node o ps) x w =
    by_cond (λ next. Leads c w next → Rest c (in_node o ps) (x ∷ w)) (is_white_space x)
    (Some (in_node o ps)) (go_on o ps x)
    (λ e found. (found.0, inr (e, found.1), found.2))
    (λ _ found. (x ∷ w, inl refl, go_on_back c o ps x w found))
back c (in_name o ps n) x w =
    let ended = cond (is_white_space x) (Some (after_name o ps n))
    (cond (x == 91) (Some (in_value o ps n [] [])) None) in
    by_cond (λ next. Leads c w next → Rest c (in_name o ps n) (x ∷ w)) (is_capital x)
    (Some (in_name o ps (n ++ x ∷ []))) ended
    (λ e (m, gap, content, capitals, is, g, found). (
      x ∷ m,
      gap,
      content,
      (e, capitals),
      ap (λ y. x ∷ y) is,
      g,
      subst (λ all. ContentRest c o ps all [] [] content) (append_assoc n (x ∷ []) m) found,
    ))
    (λ _ found. name_ends c o ps n (x ∷ w) (bracket_back c o ps n x w found))
back c (after_name o ps n) x w = bracket_back c o ps n x w
back c (in_value o ps n vs a) x w =
    let plain : Option State = Some (in_value o ps n vs (a ++ x ∷ [])) in
    by_cond (λ next. Leads c w next → ContentRest c o ps n vs a (x ∷ w)) (x == 92)
    (Some (escaped o ps n vs a))
    (cond (x == 93) (Some (after_value o ps n (vs ++ a ∷ []))) plain)
    (λ e (y, more, is, found). plain_back c o ps n vs a y more (x
    ∷ w) (λ v gap text. (more, inr (ap (λ z. z ∷ w) (eqb-true x 92 e) ∙ ap (λ z. 92 ∷ z) is), text)) found)
    (λ slash. by_cond (λ next. Leads c w next → ContentRest c o ps n vs a (x ∷ w)) (x == 93) (Some (after_value o ps n (vs ++ a ∷ []))) plain
    (λ e. value_ends c o ps n vs a x w (eqb-true x 93 e))
    (λ bracket. plain_back c o ps n vs a x w (x ∷ w) (λ v gap text. (w, inl (different x 92 slash, different x 93 bracket, refl), text))))
back c (escaped o ps n vs a) x w = λ found. (x, w, refl, found)
back c (after_value o ps n vs) x w =
    let on = go_on o (add_prop ps n vs) x in
    by_cond (λ next. Leads c w next → ValueRest c o ps n vs (x ∷ w)) (is_white_space x)
    (Some (after_value o ps n vs)) (cond (x == 91) (Some (in_value o ps n vs [])) on)
    (λ e found. (found.0, found.1, found.2, inr (e, found.3), found.4, found.5))
    (λ _. by_cond (λ next. Leads c w next → ValueRest c o ps n vs (x ∷ w)) (x == 91) (Some (in_value o ps n vs [])) on
    (λ e. next_value c o ps n vs x w (eqb-true x 91 e))
    (λ _ found. (
      x ∷ w,
      [],
      x ∷ w,
      inl refl,
      refl,
      subst (λ all. NodeRest c o (add_prop ps n all) (x
          ∷ w)) (sym (append_nil vs)) (go_on_back c o (add_prop ps n vs) x w found),
    )))

pub run_back : (c : GameTrees) (w : List ℕ) (next : Option State) (t : State) (r : List ℕ)
    → run_on next w ≡ Some t → Rest c t r → Leads c (w ++ r) next
run_back c [] None t r e found = cc
run_back c [] (Some s) t r e found = let same : t ≡ s = cc in subst (λ any. Rest c any r) same found
run_back c (x ∷ w) None t r e found = cc
run_back c (x ∷ w) (Some s) t r e found = back c s x (w ++ r) (run_back c w (step s x) t r e found)

-- what ends outside of all trees is a text of the trees there
pub run_text : (o : Open) (w : List ℕ) → run begin w ≡ Some (between o) → o.outer ≡ []
    → HasTree o.kids → Text o.kids w
run_text o w e ground some =
    let at_end : Closes o.kids o.outer o.nodes o.kids [] =
    let P : List Branch → Type 0 = λ outer. Closes o.kids outer o.nodes o.kids [] in
    subst P (sym ground) (none, sym (join-none o.kids), refl) in
    let found = run_back o.kids w (Some begin) (between o) [] e ([], refl, at_end) in
    let text : Text o.kids (w ++ [])
    = (found.0, some, found.1, subst (λ all. TreesText all found.0 []) (sym found.2.1) found.2.2) in
    subst (λ bytes. Text o.kids bytes) (append_nil w) text
