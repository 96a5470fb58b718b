-- What the reader has after the events of an expression or of a statement.
use Rattle.std.proofs.Common.{◌≡◌, ℕ, ◌-◌, ◌+◌, List, [], ◌∷◌, ◌++◌, length, set, Option, Some, None, slice_get, append_assoc, if◌then◌else◌, refl, ◌∙◌, ap, arith}
use Rattle.std.proofs.lemmas.List.{length-append}
use Rattle.std.proofs.Math.Seq.{set-append_seam}
use Rattle.frame_grammar.specs.declared.symbols.Action.{Action}
use Rattle.frame_grammar.specs.declared.symbols.Action.TheVariants as action
use Rattle.frame_grammar.specs.declared.symbols.Event.{Event}
use Rattle.kernel_raw.specs.declared.raw.RawForm.{RawForm}
use Rattle.kernel_raw.specs.declared.raw.RawForm.TheVariants as form
use Rattle.kernel_raw.specs.declared.raw.RawNode.{RawNode}
use Rattle.kernel_raw.specs.declared.raw.RawParam.{RawParam}
use Rattle.kernel_raw.specs.declared.part.Part.{Part}
use Rattle.kernel_raw.specs.declared.part.Part.TheVariants as part
use Rattle.kernel_raw.specs.Raw.{RawExpr, Leaf, One, Two, Infix, expr_size, expr_node, expr_nodes}
use Rattle.kernel_raw.specs.RawEvents.{on, SpellsExpr, SpellsSimple, SpellsHead, SpellsBlock}
use Rattle.kernel_raw.specs.RawEvents as raw
use Rattle.kernel_raw.specs.Reading.{Reading, part_of, with_part, changed, is_last, last_after, change, replaced_if, step, run}

abbrev pub mk : List RawParam → RawParam → List RawNode → List ℕ → ℕ → Reading
mk ps p xs os l = record { params = ps; param = p; nodes = xs; opened = os; last = l }

pub run-append : (s : Reading) (xs ys : List Event) → run s (xs ++ ys) ≡ run (run s xs) ys
run-append s [] ys = refl
run-append s (x ∷ xs) ys = run-append (step s x) xs ys

slice_get-seam : {X : Type 0} (xs : List X) (y : X) (ys : List X) → slice_get (xs ++ y ∷ ys) (length xs) ≡ Some y
slice_get-seam [] y ys = refl
slice_get-seam (x ∷ xs) y ys = slice_get-seam xs y ys

behind-seam : (xs : List RawNode) (n : RawNode) (ys : List RawNode) → length (xs ++ n ∷ ys) - 1 - length xs ≡ length ys
behind-seam xs n ys = omega (arith, length-append xs (n ∷ ys))

pub length-more : (xs : List RawNode) (n : RawNode) (ys : List RawNode) → length (xs ++ n ∷ ys) ≡ length xs + (1 + length ys)
length-more xs n ys = omega (arith, length-append xs (n ∷ ys))

-- the innermost open node changes where it stands
pub change_seam : (pt : Part) (q : ℕ) (ps : List RawParam) (p : RawParam) (xs : List RawNode) (n : RawNode) (ys : List RawNode) (os : List ℕ) (l : ℕ) →
    change pt q (mk ps p (xs ++ n ∷ ys) (length xs ∷ os) l)
    ≡ mk ps p (xs ++ changed pt q (length ys) n ∷ ys) (if is_last pt then os else length xs ∷ os)
    (last_after pt (length xs) (changed pt q (length ys) n).before l)
change_seam pt q ps p xs n ys os l =
    ap (λ o. replaced_if pt q (length (xs ++ n ∷ ys)) (length xs) o (mk ps p (xs ++ n ∷ ys) (length xs ∷ os) l)) (slice_get-seam xs n ys)
    ∙ ap (λ k. mk ps p (set (xs ++ n ∷ ys) (length xs) (changed pt q k n)) (if is_last pt then os else length xs ∷ os)
    (last_after pt (length xs) (changed pt q k n).before l)) (behind-seam xs n ys)
    ∙ ap (λ zs. mk ps p zs (if is_last pt then os else length xs ∷ os) (last_after pt (length xs) (changed pt q (length ys) n).before l))
    (set-append_seam xs n ys (changed pt q (length ys) n))

pub length-expr : (e : RawExpr) → length (expr_nodes e) ≡ expr_size e
length-expr (Leaf f at name) = refl
length-expr (One f at name e) = omega (arith, length-expr e)
length-expr (Two f at name e g) = omega (arith, length-append (expr_nodes e) (expr_nodes g), length-expr e, length-expr g)
length-expr (Infix at e g) =
    omega (arith, length-append (expr_nodes e) (expr_node form.Binary at at (expr_size e) (expr_size g) ∷ expr_nodes g), length-expr e, length-expr g)

-- EXPRESSIONS

-- the node that an event begins
abbrev pub blank : (at name : ℕ) (owner : Option ℕ) (before : ℕ) → RawNode
blank at name owner before = record { form = form.Number; at = at; name = name; owner = owner; before = before; after = 0; heads = 0; inside = 0 }

-- Reading these events of an expression adds its nodes, whatever is open.
abbrev pub Reads : List Event → RawExpr → Type 0
Reads es e = (ps : List RawParam) (p : RawParam) (xs : List RawNode) (o : ℕ) (os : List ℕ) (l : ℕ) →
    run (mk ps p xs (o ∷ os) l) es ≡ mk ps p (xs ++ expr_nodes e) (o ∷ os) (length xs)

pub named_node : (ps : List RawParam) (p : RawParam) (xs : List RawNode) (n : RawNode) (os : List ℕ) (l x : ℕ) →
    change part.Name x (mk ps p (xs ++ n ∷ []) (length xs ∷ os) l) ≡ mk ps p (xs ++ record n { name = x } ∷ []) (length xs ∷ os) l
named_node ps p xs n os l x = change_seam part.Name x ps p xs n [] os l

less_none : (n : ℕ) → n - 0 ≡ n
less_none n = omega arith

ended : (f : RawForm) (q : ℕ) (ps : List RawParam) (p : RawParam) (xs : List RawNode) (at name before k : ℕ) (ys : List RawNode) (os : List ℕ) (l : ℕ)
    → length ys ≡ k →
    change (part.Ends f) q (mk ps p (xs ++ blank at name None before ∷ ys) (length xs ∷ os) l) ≡ mk ps p (xs ++ expr_node f at name 0 k ∷ ys) os (length xs)
ended f q ps p xs at name before k ys os l e =
    change_seam (part.Ends f) q ps p xs (blank at name None before) ys os l
    ∙ ap (λ j. mk ps p (xs ++ expr_node f at name 0 j ∷ ys) os (length xs - 0)) e
    ∙ ap (λ j. mk ps p (xs ++ expr_node f at name 0 k ∷ ys) os j) (less_none (length xs))

-- reading an expression behind a node
pub one_part : (es : List Event) (e : RawExpr) → Reads es e → (ps : List RawParam) (p : RawParam) (xs : List RawNode) (n : RawNode) (os : List ℕ) (l : ℕ)
    (rest : List Event) →
    run (mk ps p (xs ++ n ∷ []) (length xs ∷ os) l) (es ++ rest) ≡ run (mk ps p (xs ++ n ∷ expr_nodes e) (length xs ∷ os) (length (xs ++ n ∷ []))) rest
one_part es e h ps p xs n os l rest =
    run-append (mk ps p (xs ++ n ∷ []) (length xs ∷ os) l) es rest
    ∙ ap (λ s. run s rest) (h ps p (xs ++ n ∷ []) (length xs) os l)
    ∙ ap (λ zs. run (mk ps p zs (length xs ∷ os) (length (xs ++ n ∷ []))) rest) (append_assoc xs (n ∷ []) (expr_nodes e))

pub two_parts : (es gs : List Event) (e g : RawExpr) → Reads es e → Reads gs g
    → (ps : List RawParam) (p : RawParam) (xs : List RawNode) (n : RawNode) (os : List ℕ) (l : ℕ) (rest : List Event) →
    run (mk ps p (xs ++ n ∷ []) (length xs ∷ os) l) (es ++ (gs ++ rest))
    ≡ run (mk ps p (xs ++ (n ∷ expr_nodes e ++ expr_nodes g)) (length xs ∷ os) (length (xs ++ n ∷ expr_nodes e))) rest
two_parts es gs e g h i ps p xs n os l rest =
    one_part es e h ps p xs n os l (gs ++ rest)
    ∙ run-append (mk ps p (xs ++ n ∷ expr_nodes e) (length xs ∷ os) (length (xs ++ n ∷ []))) gs rest
    ∙ ap (λ s. run s rest) (i ps p (xs ++ n ∷ expr_nodes e) (length xs) os (length (xs ++ n ∷ [])))
    ∙ ap (λ zs. run (mk ps p zs (length xs ∷ os) (length (xs ++ n ∷ expr_nodes e))) rest) (append_assoc xs (n ∷ expr_nodes e) (expr_nodes g))

abbrev Ends : Action → RawForm → Type 0
Ends a f = part_of a ≡ part.Ends f

reads_leaf : (f : RawForm) (at x q : ℕ) (a : Action) → Ends a f → Reads (on action.StartAtom at ∷ on action.Name x ∷ on a q ∷ []) (Leaf f at x)
reads_leaf f at x q a is ps p xs o os l =
    ap (λ s. run s (on a q ∷ [])) (named_node ps p xs (blank at at None 0) (o ∷ os) l x)
    ∙ ap (λ t. with_part t q (mk ps p (xs ++ blank at x None 0 ∷ []) (length xs ∷ o ∷ os) l)) is
    ∙ ended f q ps p xs at x 0 0 [] (o ∷ os) l refl

reads_one : (f : RawForm) (at x q : ℕ) (a : Action) (es : List Event) (e : RawExpr) → Ends a f → Reads es e →
    Reads (on action.StartAtom at ∷ on action.Name x ∷ es ++ on a q ∷ []) (One f at x e)
reads_one f at x q a es e is h ps p xs o os l =
    ap (λ s. run s (es ++ on a q ∷ [])) (named_node ps p xs (blank at at None 0) (o ∷ os) l x)
    ∙ one_part es e h ps p xs (blank at x None 0) (o ∷ os) l (on a q ∷ [])
    ∙ ap (λ t. with_part t q (mk ps p (xs ++ blank at x None 0 ∷ expr_nodes e) (length xs ∷ o ∷ os) (length (xs ++ blank at x None 0 ∷ [])))) is
    ∙ ended f q ps p xs at x 0 (expr_size e) (expr_nodes e) (o ∷ os) _ (length-expr e)

pub length-two : (e g : RawExpr) → length (expr_nodes e ++ expr_nodes g) ≡ expr_size e + expr_size g
length-two e g = omega (arith, length-append (expr_nodes e) (expr_nodes g), length-expr e, length-expr g)

reads_two : (f : RawForm) (at x q : ℕ) (a : Action) (es gs : List Event) (e g : RawExpr) → Ends a f → Reads es e → Reads gs g →
    Reads (on action.StartAtom at ∷ on action.Name x ∷ es ++ (gs ++ on a q ∷ [])) (Two f at x e g)
reads_two f at x q a es gs e g is h i ps p xs o os l =
    ap (λ s. run s (es ++ (gs ++ on a q ∷ []))) (named_node ps p xs (blank at at None 0) (o ∷ os) l x)
    ∙ two_parts es gs e g h i ps p xs (blank at x None 0) (o ∷ os) l (on a q ∷ [])
    ∙ ap (λ t. with_part t q (mk ps p (xs ++ (blank at x None 0 ∷ expr_nodes e ++ expr_nodes g)) (length xs ∷ o ∷ os)
    (length (xs ++ blank at x None 0 ∷ expr_nodes e)))) is
    ∙ ended f q ps p xs at x 0 (expr_size e + expr_size g) (expr_nodes e ++ expr_nodes g) (o ∷ os) _ (length-two e g)

reads_unary : (at q : ℕ) (es : List Event) (e : RawExpr) → Reads es e → Reads (on action.Operator at ∷ es ++ on action.Unary q ∷ []) (One form.Unary at at e)
reads_unary at q es e h ps p xs o os l =
    one_part es e h ps p xs (blank at at None (length xs - l)) (o ∷ os) (length xs) (on action.Unary q ∷ [])
    ∙ ended form.Unary q ps p xs at at (length xs - l) (expr_size e) (expr_nodes e) (o ∷ os) _ (length-expr e)

reads_between : (at q : ℕ) (es gs : List Event) (e g : RawExpr) → Reads es e → Reads gs g →
    Reads (es ++ on action.Operator at ∷ gs ++ on action.Binary q ∷ []) (Infix at e g)
reads_between at q es gs e g h i ps p xs o os l =
    let zs = xs ++ expr_nodes e in
    let size : length zs - length xs ≡ expr_size e = omega (arith, length-append xs (expr_nodes e), length-expr e) in
    let first : length zs - expr_size e ≡ length xs = omega (arith, length-append xs (expr_nodes e), length-expr e) in
    run-append (mk ps p xs (o ∷ os) l) (es ++ on action.Operator at ∷ gs) (on action.Binary q ∷ [])
    ∙ ap (λ s. run s (on action.Binary q ∷ [])) (
    run-append (mk ps p xs (o ∷ os) l) es (on action.Operator at ∷ gs)
    ∙ ap (λ s. run s (on action.Operator at ∷ gs)) (h ps p xs o os l)
    ∙ ap (λ k. run (mk ps p (zs ++ blank at at None k ∷ []) (length zs ∷ o ∷ os) (length zs)) gs) size
    ∙ i ps p (zs ++ blank at at None (expr_size e) ∷ []) (length zs) (o ∷ os) (length zs)
    ∙ ap (λ ys. mk ps p ys (length zs ∷ o ∷ os) (length (zs ++ blank at at None (expr_size e) ∷ [])))
    (append_assoc zs (blank at at None (expr_size e) ∷ []) (expr_nodes g)))
    ∙ change_seam part.Joins q ps p zs (blank at at None (expr_size e)) (expr_nodes g) (o ∷ os) (length (zs ++ blank at at None (expr_size e) ∷ []))
    ∙ ap (λ k. mk ps p (zs ++ expr_node form.Binary at at (expr_size e) k ∷ expr_nodes g) (o ∷ os) (length zs - expr_size e)) (length-expr g)
    ∙ ap (λ k. mk ps p (zs ++ expr_node form.Binary at at (expr_size e) (expr_size g) ∷ expr_nodes g) (o ∷ os) k) first
    ∙ ap (λ ys. mk ps p ys (o ∷ os) (length xs)) (append_assoc xs (expr_nodes e) (expr_node form.Binary at at (expr_size e) (expr_size g) ∷ expr_nodes g))

along : (es events : List Event) (e : RawExpr) → events ≡ es → Reads es e → Reads events e
along es events e is h ps p xs o os l = ap (run (mk ps p xs (o ∷ os) l)) is ∙ h ps p xs o os l

pub reads : {es : List Event} {e : RawExpr} → SpellsExpr es e → Reads es e
reads (raw.number {at = at} q is) = along _ _ (Leaf form.Number at at) is (λ ps p xs o os l. ended form.Number q ps p xs at at 0 0 [] (o ∷ os) l refl)
reads (raw.index {at = at} q is) = along _ _ (Leaf form.Index at at) is (λ ps p xs o os l. ended form.Index q ps p xs at at 0 0 [] (o ∷ os) l refl)
reads (raw.name {at = at} {x = x} q is) = along _ _ (Leaf form.Name at x) is (reads_leaf form.Name at x q action.NameAtom refl)
reads (raw.size {at = at} {x = x} q is) = along _ _ (Leaf form.Length at x) is (reads_leaf form.Length at x q action.LenAtom refl)
reads (raw.element {at = at} {x = x} q es {e = e} d is) = along _ _ (One form.Element at x e) is
    (reads_one form.Element at x q action.PlaceAtom es e refl (reads d))
reads (raw.has {at = at} {x = x} q es {e = e} d is) = along _ _ (One form.Has at x e) is (reads_one form.Has at x q action.HasAtom es e refl (reads d))
reads (raw.count {at = at} {x = x} q es {e = e} d is) = along _ _ (One form.Count at x e) is (reads_one form.Count at x q action.CountAtom es e refl (reads d))
reads (raw.item {at = at} {x = x} q es gs {e = e} {g = g} d c is) =
    along _ _ (Two form.Item at x e g) is (reads_two form.Item at x q action.AtAtom es gs e g refl (reads d) (reads c))
reads (raw.unary {at = at} q es {e = e} d is) = along _ _ (One form.Unary at at e) is (reads_unary at q es e (reads d))
reads (raw.between {at = at} q es gs {e = e} {g = g} d c is) = along _ _ (Infix at e g) is (reads_between at q es gs e g (reads d) (reads c))
