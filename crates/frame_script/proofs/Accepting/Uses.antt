-- Statements without a fault that use containers and handles fit.
use Rattle.std.proofs.Common.{◌≡◌, ℕ, ◌≤◌, ◌⊎◌, inl, inr, Bool, true, false, nat_eq, ℤ, Vec, Global, List, [], ◌∷◌, length, map, Option, None, Some, refl, sym, ◌∙◌, ap, arith}
use Rattle.std.specs.Option.{option_map}
use Rattle.std.proofs.lemmas.Bool.{and_from}
use Rattle.std.proofs.lemmas.List.{length-map}
use Rattle.frame_grammar.specs.declared.symbols.Event.{Event}
use Rattle.frame_ast.specs.declared.kernel.Kernel.{Kernel}
use Rattle.frame_ast.specs.declared.script.Order.TheVariants as order
use Rattle.frame_ast.specs.Accepted.{all_used, uses}
use Rattle.frame_ast.specs.Accepted as accepted
use Rattle.frame_ast.specs.declared.name_kind.NameKind.TheVariants as kind
use Rattle.frame_ast.specs.Lists.{first_some}
use Rattle.script_text.specs.declared.raw.RawNumber.{RawNumber}
use Rattle.script_text.specs.declared.source.Source.{Source}
use Rattle.script_text.specs.Sources.{number_at, signed_at}
use Rattle.frame_ast.specs.declared.name_kind.TheConstants.{REMOVABLE, CLEARABLE, DISPOSABLE, CONTAINERS}
use Rattle.script_names.specs.Names as names
use Rattle.script_text.specs.Raw.{Set, Add, Put, Remove, Clear, SetCapacity, Combine, Complete, Dispose, DisposeAuto, Print}
use Rattle.script_text.specs.Events.{SpellsOrder, dispose, dispose_after}
use Rattle.script_checks.specs.Faults.{Scope, set_kinds, add_kinds, order_faults, handles_faults, as_faults}
use Rattle.script_checks.specs.Spelling.{place_of, names_after, complete_of}
use Rattle.frame_script.proofs.Accepting.Places.{le_test}
use Rattle.frame_script.proofs.Accepting.Names.{Leads, scene, first_parts, join_parts, used, handles_used, make}
use Rattle.frame_script.proofs.Accepting.Fits.{Fits, limits}

-- with an index or a second number the same kinds are taken

set_alike : (s : Source) (index : Option RawNumber) → set_kinds index ≡ accepted.set_kinds (option_map (signed_at s) index)
set_alike s None = refl
set_alike s (Some n) = refl

add_alike : (s : Source) (second : Option RawNumber) → add_kinds second ≡ accepted.add_kinds (option_map (signed_at s) second)
add_alike s None = refl
add_alike s (Some n) = refl

-- a disposal tells a handle exactly where it comes after others
together : {es : List Event} {name : ℕ} {after : List ℕ} {handle : Option ℕ} → SpellsOrder es (Dispose name after handle) →
    ((after ≡ []) × (handle ≡ None)) ⊎ ((h : ℕ) × (handle ≡ Some h) × (1 ≤ length after))
together (dispose q e) = inl (refl, refl)
together (dispose_after {h = h} o a q e) = inr (h, refl, omega arith)

module _ (s : Source) (c : Scope) (all : List names.Name) (made : ℕ) (literals : List (List ℤ)) (kernels : List Kernel) (rest inside at : ℕ)
    (enough : length c.names ≤ made) where
  pub set_fits : (name : ℕ) (index : Option RawNumber) (value : RawNumber) → Leads c.names all
      → first_some (order_faults s c at (Set name index value)) ≡ None →
      Fits all made literals kernels rest inside c.names (order.Set (place_of s all name) (option_map (signed_at s) index) (signed_at s value))
  set_fits name index value leads h =
      let u = used s c.names all made (set_kinds index) name leads enough (first_parts _ _ h).0 in
      (ap (uses (scene all made) (place_of s all name)) (sym (set_alike s index)) ∙ u, enough)

  pub add_fits : (name : ℕ) (one : RawNumber) (two : Option RawNumber) → Leads c.names all → first_some (order_faults s c at (Add name one two)) ≡ None →
      Fits all made literals kernels rest inside c.names (order.Add (place_of s all name) (signed_at s one) (option_map (signed_at s) two))
  add_fits name one two leads h =
      let u = used s c.names all made (add_kinds two) name leads enough (first_parts _ _ h).0 in
      (ap (uses (scene all made) (place_of s all name)) (sym (add_alike s two)) ∙ u, enough)

  pub put_fits : (name : ℕ) (key value : RawNumber) → Leads c.names all → first_some (order_faults s c at (Put name key value)) ≡ None →
      Fits all made literals kernels rest inside c.names (order.Put (place_of s all name) (signed_at s key) (signed_at s value))
  put_fits name key value leads h = (used s c.names all made (kind.Map ∷ []) name leads enough (first_parts _ _ h).0, enough)

  pub remove_fits : (name : ℕ) (index : RawNumber) → Leads c.names all → first_some (order_faults s c at (Remove name index)) ≡ None →
      Fits all made literals kernels rest inside c.names (order.Remove (place_of s all name) (signed_at s index))
  remove_fits name index leads h = (used s c.names all made REMOVABLE name leads enough (first_parts _ _ h).0, enough)

  pub clear_fits : (name : ℕ) → Leads c.names all → first_some (order_faults s c at (Clear name)) ≡ None →
      Fits all made literals kernels rest inside c.names (order.Clear (place_of s all name))
  clear_fits name leads h = (used s c.names all made CLEARABLE name leads enough (first_parts _ _ h).0, enough)

  pub capacity_fits : (name cap : ℕ) → Leads c.names all → first_some (order_faults s c at (SetCapacity name cap)) ≡ None →
      Fits all made literals kernels rest inside c.names (order.SetCapacity (place_of s all name) (number_at s cap))
  capacity_fits name cap leads h =
      let p = first_parts _ _ h in
      (and_from _ _ (used s c.names all made (kind.List ∷ []) name leads enough p.0) (limits s _ _ cap (first_parts _ _ p.1).0).1, enough)

  pub combine_fits : (name : ℕ) (of : List ℕ) (handles : Vec ℕ Global) → Leads (names_after s c.names (Combine name of)) all
      → first_some (order_faults s c at (Combine name of)) ≡ None →
      handles.items ≡ map (place_of s all) of →
      Fits all made literals kernels rest inside (names_after s c.names (Combine name of)) (order.Combine (place_of s all name) handles)
  combine_fits name of handles leads h are =
      let p = first_parts _ _ h in
      let m = make s c.names all made kind.Handle name leads enough p.0 in
      (and_from _ _ m.fits (ap (all_used (scene all made)) are ∙ handles_used s c.names all made of m.leads enough p.1), m.enough)

  pub complete_fits : (auto : Bool) (name : ℕ) → Leads c.names all → first_some (order_faults s c at (Complete auto name)) ≡ None →
      Fits all made literals kernels rest inside c.names (complete_of auto (place_of s all name))
  complete_fits true name leads h = (used s c.names all made CONTAINERS name leads enough (first_parts _ _ h).0, enough)
  complete_fits false name leads h = (used s c.names all made (kind.Handle ∷ []) name leads enough (first_parts _ _ h).0, enough)

  disposed_alone : (name : ℕ) (after : List ℕ) (handles : Vec ℕ Global) → Leads c.names all → first_some (order_faults s c at (Dispose name after None)) ≡ None
      → after ≡ [] →
      handles.items ≡ map (place_of s all) after →
      Fits all made literals kernels rest inside c.names (order.Dispose (place_of s all name) handles None)
  disposed_alone name after handles leads h is are =
      let many : nat_eq (length handles.items) 0 ≡ true = ap (λ l. nat_eq (length l) 0) (are ∙ ap (map (place_of s all)) is) in
      (and_from _ _ (used s c.names all made DISPOSABLE name leads enough (first_parts _ _ h).0) many, enough)

  disposed_after : (name handle : ℕ) (after : List ℕ) (handles : Vec ℕ Global) → Leads (names_after s c.names (Dispose name after (Some handle))) all →
      first_some (order_faults s c at (Dispose name after (Some handle))) ≡ None → 1 ≤ length after → handles.items ≡ map (place_of s all) after →
      Fits all made literals kernels rest inside (names_after s c.names (Dispose name after (Some handle)))
      (order.Dispose (place_of s all name) handles (Some (place_of s all handle)))
  disposed_after name handle after handles leads h some are =
      let p = first_parts _ _ h in
      let q = join_parts (handles_faults s c.names after) (as_faults s c.names (Some handle)) p.1 in
      let m = make s c.names all made kind.Handle handle leads enough (first_parts _ _ q.1).0 in
      let many : 1 ≤ length handles.items = omega (arith, some, ap length are, length-map after (place_of s all)) in (
        and_from _ _ (and_from _ _ (used s c.names all made DISPOSABLE name m.leads enough p.0) (le_test _ _ many))
            (and_from _ _ m.fits (ap (all_used (scene all made)) are ∙ handles_used s c.names all made after m.leads enough q.0)),
        m.enough,
      )

  pub dispose_fits : {es : List Event} (name : ℕ) (after : List ℕ) (handle : Option ℕ) (handles : Vec ℕ Global) → SpellsOrder es (Dispose name after handle) →
      Leads (names_after s c.names (Dispose name after handle)) all → first_some (order_faults s c at (Dispose name after handle)) ≡ None →
      handles.items ≡ map (place_of s all) after →
      Fits all made literals kernels rest inside (names_after s c.names (Dispose name after handle))
      (order.Dispose (place_of s all name) handles (option_map (place_of s all) handle))
  dispose_fits name after handle handles spells leads h are = by handle (together spells) leads h
    where
      by : (o : Option ℕ) → ((after ≡ []) × (o ≡ None)) ⊎ ((g : ℕ) × (o ≡ Some g) × (1 ≤ length after))
          → Leads (names_after s c.names (Dispose name after o)) all →
          first_some (order_faults s c at (Dispose name after o)) ≡ None →
          Fits all made literals kernels rest inside (names_after s c.names (Dispose name after o))
          (order.Dispose (place_of s all name) handles (option_map (place_of s all) o))
      by None (inl e) leads h = disposed_alone name after handles leads h e.0 are
      by None (inr e) leads h = absurd cc
      by (Some g) (inl e) leads h = absurd cc
      by (Some g) (inr e) leads h = disposed_after name g after handles leads h e.2 are

  pub auto_fits : (name handle : ℕ) → Leads (names_after s c.names (DisposeAuto name handle)) all
      → first_some (order_faults s c at (DisposeAuto name handle)) ≡ None →
      Fits all made literals kernels rest inside (names_after s c.names (DisposeAuto name handle))
      (order.DisposeAuto (place_of s all name) (place_of s all handle))
  auto_fits name handle leads h =
      let p = first_parts _ _ h in
      let m = make s c.names all made kind.Handle handle leads enough (first_parts _ _ p.1).0 in
      (and_from _ _ (used s c.names all made DISPOSABLE name m.leads enough p.0) m.fits, m.enough)

  pub print_fits : (name : ℕ) → Leads c.names all → first_some (order_faults s c at (Print name)) ≡ None →
      Fits all made literals kernels rest inside c.names (order.Print (place_of s all name))
  print_fits name leads h = (used s c.names all made CONTAINERS name leads enough (first_parts _ _ h).0, enough)
