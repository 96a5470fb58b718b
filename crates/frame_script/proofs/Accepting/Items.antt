-- The statements that items without a fault stand for fit, one after another.
use Rattle.std.proofs.Common.{◌≡◌, ℕ, ◌≤◌, Bool, true, false, ◌||◌, not, ℤ, List, [], ◌∷◌, ◌++◌, length, Option, None, Some, refl, sym, subst}
use Rattle.std.proofs.lemmas.Bool.{and_parts}
use Rattle.frame_grammar.specs.declared.symbols.Event.{Event}
use Rattle.frame_ast.specs.declared.kernel.Kernel.{Kernel as CheckedKernel}
use Rattle.frame_ast.specs.declared.script.Statement.{Statement}
use Rattle.frame_ast.specs.declared.name_kind.NameKind.TheVariants as kind
use Rattle.frame_ast.specs.Lists.{first_some}
use Rattle.script_text.specs.declared.raw.RawNumber.{RawNumber}
use Rattle.script_text.specs.declared.source.Source.{Source}
use Rattle.script_text.specs.Sources.{number_at, signed_at}
use Rattle.script_names.specs.Names.{Name}
use Rattle.script_text.specs.Raw.{OrderForm, Repeat, When, RawItems, Nothing, Kernel, Single, Block}
use Rattle.script_text.specs.Events.{SpellsOrder, SpellsItems, closing}
use Rattle.script_text.specs.Events as raw
use Rattle.script_checks.specs.Faults.{Scope, order_faults}
use Rattle.script_checks.specs.Spelling.{place_of, names_after}
use Rattle.frame_script.specs.Files.{IsFaultless, IsStatement, StandFor, Repeated, literals_of, literals_in, after_order, after_block, in_block}
use Rattle.frame_script.specs.Files as files
use Rattle.script_checks.proofs.NumberLemmas.{holds_from}
use Rattle.frame_script.proofs.Accepting.Places.{le_from}
use Rattle.frame_script.proofs.Accepting.Names.{Leads, leads_on, leads_length, first_parts, used}
use Rattle.frame_script.proofs.Accepting.Fits.{Stands, stands_first, stands_behind, limits}
use Rattle.frame_script.proofs.Accepting.Orders.{order_fitting, not_when}
use Rattle.frame_script.proofs.Accepting.Scopes.{grows, kernels_kept}
use Rattle.frame_script.proofs.Accepting.Copies.{Lead, lead_nothing, lead_one, lead_when, lead_joined, copies_lead}

or_none : (b : Bool) → (b || false) ≡ b
or_none true = refl
or_none false = refl

or_all : (b : Bool) → (b || true) ≡ true
or_all true = refl
or_all false = refl

not_from : (b : Bool) → not b ≡ true → b ≡ false
not_from true h = cc
not_from false h = refl

no_end : {A : Type 0} {x : A} → ◌≡◌ {A = Option A} None (Some x) → ⊥
no_end e = cc

module _ (s : Source) (all : List Name) (kernels : List CheckedKernel) (literals : List (List ℤ)) where
  -- these statements fit between two scopes
  abbrev pub Fitting : (c last : Scope) → List Statement → Type 0
  Fitting c last xs = Lead all literals kernels c.tested (length c.names) (length last.names) xs

  -- a statement without a block
  one_fits : (c : Scope) (at place : ℕ) {es : List Event} (form : OrderForm) (x : Statement) → SpellsOrder es form → closing form ≡ None
      → first_some (order_faults s c at form) ≡ None →
      Leads (names_after s c.names form) all → Leads c.kernels kernels → Stands literals place (literals_of s form) →
      IsStatement s all kernels place 0 at form x → Fitting c (after_order s c form) (x ∷ [])
  one_fits c at place form x spells single none leads earlier stands is =
      lead_one all literals kernels c.tested (length c.names) _ x (not_when s all kernels place 0 form x.act single is.says)
      (λ made rest inside enough. order_fitting s c all made literals kernels rest inside at place enough form spells single x.act leads earlier stands none
      is.says)

  -- the copies of a `repeat`
  repeat_fits : (c middle : Scope) (at n place : ℕ) (inner : RawItems) (xs : List Statement) → first_some (order_faults s c at (Repeat n)) ≡ None
      → length c.names ≤ length middle.names →
      ((ys : List Statement) → StandFor s all kernels place inner ys → Fitting (in_block c (Repeat n)) middle ys) →
      Repeated (number_at s n) (StandFor s all kernels place inner) xs → Fitting c middle xs
  repeat_fits c middle at n place inner xs none le each copies =
      let some = limits s _ _ n (first_parts _ _ (first_parts _ _ none).1).0 in
      copies_lead all literals kernels c.tested (length c.names) (length middle.names) (StandFor s all kernels place inner) le
      (λ ys is. subst (λ t. Lead all literals kernels t (length c.names) (length middle.names) ys) (or_none c.tested) (each ys is))
      (number_at s n) xs (le_from _ _ some.0) copies

  -- a `when` and the statements of its block
  when_fits : (c middle : Scope) (at name sign place : ℕ) (value : RawNumber) (x : Statement) (body : List Statement)
      → first_some (order_faults s c at (When name sign value)) ≡ None → Leads c.names all →
      IsStatement s all kernels place (length body) at (When name sign value) x → Fitting (in_block c (When name sign value)) middle body
      → Fitting c middle (x ∷ body)
  when_fits c middle at name sign place value x body none leads is within =
      let p = first_parts _ _ none in
      let q = first_parts _ _ p.1 in
      let free : c.tested ≡ false = not_from _ (and_parts _ _ (holds_from _ _ _ p.0)).1 in
      let inner : Lead all literals kernels true (length c.names) (length middle.names) body =
      subst (λ t. Lead all literals kernels t (length c.names) (length middle.names) body) (or_all c.tested) within in
      subst (λ t. Lead all literals kernels t (length c.names) (length middle.names) (x ∷ body)) (sym free)
      (lead_when all literals kernels (length c.names) (length middle.names) (place_of s all name) _ (signed_at s value) x body is.says
      (λ made enough. used s c.names all made (kind.Reference ∷ []) name leads enough q.0) inner)

  joined : (c middle last : Scope) (xs ys zs : List Statement) → zs ≡ xs ++ ys → c.tested ≡ middle.tested → Fitting c middle xs → Fitting middle last ys
      → Fitting c last zs
  joined c middle last xs ys zs is same a b =
      subst (Fitting c last) (sym is)
      (lead_joined all literals kernels c.tested (length c.names) (length middle.names) (length last.names) xs ys a
      (subst (λ t. Lead all literals kernels t (length middle.names) (length last.names) ys) (sym same) b))

  pub items_fit : (items : RawItems) {c last : Scope} {outside : Bool} {es : List Event} → IsFaultless s c items last → SpellsItems outside es items
      → Leads last.names all → Leads last.kernels kernels →
      (place : ℕ) → Stands literals place (literals_in s items) → (xs : List Statement) → StandFor s all kernels place items xs → Fitting c last xs
  items_fit Nothing {c} files.nothing spells leads earlier place stands xs is = lead_nothing all literals kernels c.tested (length c.names) xs is
  items_fit (Kernel events form more) (files.kernel read k is_raw none kernel_is others)
      (raw.kernel after spells behind all_are) leads earlier place stands xs is =
      items_fit more others behind leads earlier place stands xs is
  items_fit (Single at form more) {c} {last} (files.single none others) (raw.single es rest spells single behind all_are) leads earlier place stands xs is =
      let g = grows s more others in
      let here = one_fits c at place form is.0 spells single none (leads_on _ _ _ g.names leads) (leads_on _ _ _ g.kernels earlier)
      (stands_first literals place _ _ stands) is.3 in
      joined c (after_order s c form) last (is.0 ∷ []) is.1 xs is.2 refl here
      (items_fit more others behind leads earlier _ (stands_behind literals place _ _ stands) is.1 is.4)
  items_fit (Block at (Repeat n) inner more) {c} {last} (files.block middle none within others)
      (raw.block end q hs es rest spells closes inside behind all_are) leads earlier place stands xs is =
      let g = grows s more others in
      let i = grows s inner within in
      let here = repeat_fits c middle at n place inner is.0 none (leads_length _ _ i.names)
      (items_fit inner within inside (leads_on _ _ _ g.names leads) (subst (λ ks. Leads ks kernels) (sym (kernels_kept s inner inside within))
      (leads_on _ _ _ g.kernels earlier)) place (stands_first literals place _ _ stands))
      is.3 in
      joined c (after_block c middle) last is.0 is.1 xs is.2 refl here
      (items_fit more others behind leads earlier _ (stands_behind literals place _ _ stands) is.1 is.4)
  items_fit (Block at (When name sign value) inner more) {c} {last} (files.block middle none within others)
      (raw.block end q hs es rest spells closes inside behind all_are) leads earlier place stands xs is =
      let g = grows s more others in
      let i = grows s inner within in
      let body = items_fit inner within inside (leads_on _ _ _ g.names leads)
      (subst (λ ks. Leads ks kernels) (sym (kernels_kept s inner inside within)) (leads_on _ _ _ g.kernels earlier)) place
      (stands_first literals place _ _ stands) is.1 is.5 in
      let here = when_fits c middle at name sign place value is.0 is.1 none (leads_on _ _ _ i.names (leads_on _ _ _ g.names leads)) is.4 body in
      joined c (after_block c middle) last (is.0 ∷ is.1) is.2 xs is.3 refl here
      (items_fit more others behind leads earlier _ (stands_behind literals place _ _ stands) is.2 is.6)
  items_fit (Block at _ inner more) faultless (raw.block end q hs es rest spells closes inside behind all_are) leads earlier place stands xs is =
      absurd (no_end closes)
