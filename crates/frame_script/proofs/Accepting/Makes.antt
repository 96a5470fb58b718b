-- Statements without a fault that make containers fit.
use Rattle.std.proofs.Common.{◌≡◌, ℕ, ◌≤◌, true, ℤ, Vec, Global, List, [], ◌∷◌, length, Option, None, Some, sym, ◌∙◌, ap, subst}
use Rattle.std.specs.Option.{option_map}
use Rattle.std.proofs.lemmas.Bool.{and_from}
use Rattle.frame_ast.specs.declared.kernel.Kernel.{Kernel}
use Rattle.frame_ast.specs.declared.script.Life.{Life}
use Rattle.frame_ast.specs.declared.script.Order.TheVariants as order
use Rattle.frame_ast.specs.Accepted.{is_among, copies, up_to}
use Rattle.frame_ast.specs.declared.name_kind.NameKind.{NameKind}
use Rattle.frame_ast.specs.declared.name_kind.NameKind.TheVariants as kind
use Rattle.frame_ast.specs.Lists.{first_some}
use Rattle.script_text.specs.declared.raw.RawNumber.{RawNumber}
use Rattle.script_text.specs.declared.source.Source.{Source}
use Rattle.script_text.specs.Sources.{text_at, column_at, number_at, signed_at}
use Rattle.script_names.specs.Names.{kind_in}
use Rattle.frame_ast.specs.declared.name_kind.TheConstants.{SLICEABLE, CONTAINERS}
use Rattle.script_names.specs.Names as names
use Rattle.script_text.specs.Raw.{NewArray, NewColumn, NewList, NewReference, NewMap, NewStream, Slice, View, Copy}
use Rattle.script_checks.specs.Faults.{Scope, misfit, make_fault, copy_fault, order_faults, made_alike}
use Rattle.script_checks.specs.Spelling.{place_of, literal_of, names_with, names_after}
use Rattle.script_checks.proofs.NumberLemmas.{holds_from}
use Rattle.frame_script.proofs.Accepting.Names.{Leads, scene, first_parts, misfit_none, known, used, make}
use Rattle.frame_script.proofs.Accepting.Fits.{Fits, limits, Stands, lists_of, literal_stands}

module _ (s : Source) (c : Scope) (all : List names.Name) (made : ℕ) (literals : List (List ℤ)) (kernels : List Kernel) (rest inside at : ℕ)
    (enough : length c.names ≤ made) where
  pub array_fits : (place name len : ℕ) (life : Life) (values : Option (List RawNumber)) → Leads (names_after s c.names (NewArray name len life values)) all
      → Stands literals place (lists_of s values) →
      first_some (order_faults s c at (NewArray name len life values)) ≡ None →
      Fits all made literals kernels rest inside (names_after s c.names (NewArray name len life values))
      (order.Array (place_of s all name) (number_at s len) life (literal_of place values))
  array_fits place name len life values leads stands h =
      let p = first_parts _ _ h in
      let q = first_parts _ _ p.1 in
      let m = make s c.names all made kind.Array name leads enough p.0 in
      (and_from _ _ m.fits (and_from _ _ (limits s _ _ len (first_parts _ _ q.1).0).1 (literal_stands s literals place len values stands q.0)), m.enough)

  pub column_fits : (name column : ℕ) (life : Life) (bytes : Vec ℕ Global) → Leads (names_after s c.names (NewColumn name column life)) all
      → first_some (order_faults s c at (NewColumn name column life)) ≡ None →
      bytes.items ≡ column_at s column →
      Fits all made literals kernels rest inside (names_after s c.names (NewColumn name column life)) (order.Column (place_of s all name) bytes life)
  column_fits name column life bytes leads h is =
      let p = first_parts _ _ h in
      let m = make s c.names all made kind.Array name leads enough p.0 in
      (and_from _ _ m.fits (ap (λ l. up_to 256 (length l)) is ∙ holds_from _ _ _ (first_parts _ _ p.1).0), m.enough)

  pub list_fits : (name cap : ℕ) (life : Life) → Leads (names_after s c.names (NewList name cap life)) all
      → first_some (order_faults s c at (NewList name cap life)) ≡ None →
      Fits all made literals kernels rest inside (names_after s c.names (NewList name cap life)) (order.List (place_of s all name) (number_at s cap) life)
  list_fits name cap life leads h =
      let p = first_parts _ _ h in
      let m = make s c.names all made kind.List name leads enough p.0 in
      (and_from _ _ m.fits (limits s _ _ cap (first_parts _ _ p.1).0).1, m.enough)

  pub reference_fits : (name : ℕ) (life : Life) (value : Option RawNumber) → Leads (names_after s c.names (NewReference name life value)) all
      → first_some (order_faults s c at (NewReference name life value)) ≡ None →
      Fits all made literals kernels rest inside (names_after s c.names (NewReference name life value))
      (order.Reference (place_of s all name) life (option_map (signed_at s) value))
  reference_fits name life value leads h =
      let m = make s c.names all made kind.Reference name leads enough (first_parts _ _ h).0 in
      (m.fits, m.enough)

  pub map_fits : (name cap : ℕ) (life : Life) → Leads (names_after s c.names (NewMap name cap life)) all
      → first_some (order_faults s c at (NewMap name cap life)) ≡ None →
      Fits all made literals kernels rest inside (names_after s c.names (NewMap name cap life)) (order.Map (place_of s all name) (number_at s cap) life)
  map_fits name cap life leads h =
      let p = first_parts _ _ h in
      let m = make s c.names all made kind.Map name leads enough p.0 in
      (and_from _ _ m.fits (limits s _ _ cap (first_parts _ _ p.1).0).1, m.enough)

  pub stream_fits : (name count room : ℕ) (life : Life) → Leads (names_after s c.names (NewStream name count room life)) all
      → first_some (order_faults s c at (NewStream name count room life)) ≡ None →
      Fits all made literals kernels rest inside (names_after s c.names (NewStream name count room life))
      (order.Stream (place_of s all name) (number_at s count) (number_at s room) life)
  stream_fits name count room life leads h =
      let p = first_parts _ _ h in
      let q = first_parts _ _ p.1 in
      let m = make s c.names all made kind.Stream name leads enough p.0 in
      (and_from _ _ m.fits (and_from _ _ (limits s _ _ count q.0).1 (limits s _ _ room (first_parts _ _ q.1).0).1), m.enough)

  pub slice_fits : (name of start len : ℕ) → Leads (names_after s c.names (Slice name of start len)) all
      → first_some (order_faults s c at (Slice name of start len)) ≡ None →
      Fits all made literals kernels rest inside (names_after s c.names (Slice name of start len))
      (order.Slice (place_of s all name) (place_of s all of) (number_at s start) (number_at s len))
  slice_fits name of start len leads h =
      let p = first_parts _ _ h in
      let q = first_parts _ _ p.1 in
      let r = first_parts _ _ q.1 in
      let m = make s c.names all made kind.Slice name leads enough p.0 in (
        and_from _ _ (and_from _ _ m.fits (used s c.names all made SLICEABLE of m.leads enough q.0))
            (and_from _ _ (limits s _ _ start r.0).1 (limits s _ _ len (first_parts _ _ r.1).0).1),
        m.enough,
      )

  pub view_fits : (name of : ℕ) → Leads (names_after s c.names (View name of)) all → first_some (order_faults s c at (View name of)) ≡ None →
      Fits all made literals kernels rest inside (names_after s c.names (View name of)) (order.View (place_of s all name) (place_of s all of))
  view_fits name of leads h =
      let p = first_parts _ _ h in
      let m = make s c.names all made kind.View name leads enough p.0 in
      (and_from _ _ m.fits (used s c.names all made (kind.List ∷ []) of m.leads enough (first_parts _ _ p.1).0), m.enough)

  -- a copy, by what its source stands for
  copied : (name of : ℕ) (k : NameKind) → kind_in c.names (text_at s of) ≡ Some k → is_among k CONTAINERS ≡ true
      → Leads (names_with s c.names (Some (name, k))) all →
      misfit (kind_in c.names (text_at s of)) CONTAINERS of ≡ None → make_fault s c.names k name ≡ None →
      Fits all made literals kernels rest inside (names_with s c.names (Some (name, k))) (order.Copy (place_of s all name) (place_of s all of))
  copied name of k is among leads fits h =
      let m = make s c.names all made k name leads enough h in
      let n = known s c.names all k of m.leads is in
      (and_from _ _ (used s c.names all made CONTAINERS of m.leads enough fits) (ap (copies (scene all made) (place_of s all name)) n.kind ∙ m.fits), m.enough)

  pub copy_fits : (name of : ℕ) → Leads (names_after s c.names (Copy name of)) all → first_some (order_faults s c at (Copy name of)) ≡ None →
      Fits all made literals kernels rest inside (names_after s c.names (Copy name of)) (order.Copy (place_of s all name) (place_of s all of))
  copy_fits name of leads h =
      let p = first_parts _ _ h in
      let fits : misfit (kind_in c.names (text_at s of)) CONTAINERS of ≡ None = (first_parts _ _ p.1).0 in
      let k = misfit_none (kind_in c.names (text_at s of)) CONTAINERS of fits in
      let same : names_after s c.names (Copy name of) ≡ names_with s c.names (Some (name, k.0)) = ap (λ o. names_with s c.names (made_alike name o)) k.1 in
      let fault : copy_fault s c.names (Some k.0) name ≡ None = ap (λ o. copy_fault s c.names o name) (sym k.1) ∙ p.0 in
      let makes : make_fault s c.names k.0 name ≡ None = rw k.2 at fault in
      subst (λ after. Fits all made literals kernels rest inside after (order.Copy (place_of s all name) (place_of s all of))) (sym same)
      (copied name of k.0 k.1 k.2 (subst (λ after. Leads after all) same leads) fits makes)
