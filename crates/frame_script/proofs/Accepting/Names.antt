-- Names of a statement without a fault fit where it stands, among all names of the script.
use Rattle.std.proofs.Common.{◌≡◌, ℕ, ◌+◌, ◌<◌, ◌≤◌, true, cond, max, List, [], ◌∷◌, ◌++◌, length, map, Option, None, Some, is_some, slice_get, find, refl, sym, ◌∙◌, ap, subst, arith, unwrap_or, length-append, append_assoc, append-nil}
use Rattle.std.specs.Option.{option_map}
use Rattle.std.proofs.lemmas.Bool.{and_from}
use Rattle.std.proofs.lemmas.Option.{slice_get-map}
use Rattle.std.proofs.lemmas.Slice.Eq.{bytes_eq-Decides}
use Rattle.frame_ast.specs.Accepted.{is_among, Names, uses, makes, all_used, made_after}
use Rattle.frame_ast.specs.Accepted as accepted
use Rattle.kernel_raw.specs.declared.fault.StaticFault.{StaticFault}
use Rattle.frame_ast.specs.declared.name_kind.NameKind.{NameKind}
use Rattle.frame_ast.specs.declared.name_kind.NameKind.TheVariants as kind
use Rattle.frame_ast.specs.Lists.{first_some}
use Rattle.script_text.specs.declared.source.Source.{Source}
use Rattle.script_text.specs.Sources.{text_at}
use Rattle.script_names.specs.Names.{Name, is_called, place_in, kind_in}
use Rattle.script_checks.specs.Faults.{misfit, use_fault, agrees, make_fault, handles_faults}
use Rattle.script_checks.specs.Spelling.{place_of, names_with}
use Rattle.script_checks.proofs.NumberLemmas.{holds_from}
use Rattle.script_checks.proofs.PlaceLemmas.{first_made}
use Rattle.script_checks.proofs.JobLemmas.{found_at, not_found, place_within}
use Rattle.frame_script.proofs.Accepting.Places.{le_test, lt_test, found, some_at, found_last}

-- FAULTS

-- of parts without a first fault none has one
pub first_parts : (a : Option StaticFault) (more : List (Option StaticFault)) → first_some (a ∷ more) ≡ None → (a ≡ None) × (first_some more ≡ None)
unfolding first_some
first_parts None more h = (refl, h)
first_parts (Some f) more h = cc

pub join_parts : (as' more : List (Option StaticFault)) → first_some (as' ++ more) ≡ None → (first_some as' ≡ None) × (first_some more ≡ None)
unfolding first_some
join_parts [] more h = (refl, h)
join_parts (None ∷ as') more h = join_parts as' more h
join_parts (Some f ∷ as') more h = cc

-- KINDS

-- the kinds of names, and where so many of them are made
abbrev pub kinds_of : List Name → List NameKind
kinds_of names = map (λ n. n.kind) names

abbrev pub scene : List Name → ℕ → Names
scene names made = record { kinds = kinds_of names; made = made }

-- these names come first
pub record Leads {A : Type 0} (here all : List A) : Type 0 where
  pub more : List A
  pub is : all ≡ here ++ more

pub leads_all : {A : Type 0} (xs : List A) → Leads xs xs
leads_all xs = record { more = []; is = sym (append-nil xs) }

pub leads_on : {A : Type 0} (xs ys zs : List A) → Leads xs ys → Leads ys zs → Leads xs zs
leads_on xs ys zs a b = record { more = a.more ++ b.more; is = b.is ∙ (ap (λ l. l ++ b.more) a.is ∙ append_assoc xs a.more b.more) }

pub leads_length : {A : Type 0} (xs ys : List A) → Leads xs ys → length xs ≤ length ys
leads_length xs ys a = omega (arith, ap length a.is, length-append xs a.more)

-- KNOWN NAMES

-- a known name: its kind, and its place in the whole
pub record IsKnown (s : Source) (here all : List Name) (k : NameKind) (at : ℕ) : Type 0 where
  pub within : place_of s all at < length here
  pub stays : place_of s all at ≡ place_of s here at
  pub kind : slice_get (kinds_of all) (place_of s all at) ≡ Some k

known_from : (o : Option Name) (k : NameKind) → option_map (λ n. n.kind) o ≡ Some k → (x : Name) × (o ≡ Some x) × (x.kind ≡ k)
known_from None k h = cc
known_from (Some x) k h = (x, refl, cc)

pub known : (s : Source) (here all : List Name) (k : NameKind) (at : ℕ) → Leads here all → kind_in here (text_at s at) ≡ Some k → IsKnown s here all k at
known s here all k at leads h =
    let x = known_from (find (is_called (text_at s at)) here) k h in
    let f = found (is_called (text_at s at)) here all leads.more x.0 leads.is x.1 in
    let place : place_of s all at ≡ f.place = ap (λ o. unwrap_or o 0) f.at in
    record {
      within = rw place f.within;
      stays = place ∙ sym (ap (λ o. unwrap_or o 0) f.first);
      kind = rw place (slice_get-map (λ n. n.kind) all f.place ∙ ap (option_map (λ n. n.kind)) f.there ∙ ap (λ j. Some j) x.2);
    }

-- the kind of a name that fits
pub misfit_none : (o : Option NameKind) (kinds : List NameKind) (at : ℕ) → misfit o kinds at ≡ None → (k : NameKind) × (o ≡ Some k) × (is_among k kinds ≡ true)
misfit_none None kinds at h = cc
misfit_none (Some k) kinds at h = (k, refl, holds_from _ _ _ h)

kind_fits : (o : Option NameKind) (k : NameKind) (kinds : List NameKind) → o ≡ Some k → is_among k kinds ≡ true → accepted.kind_in o kinds ≡ true
kind_fits o k kinds is h = rw is h

-- a name that is used without a fault
pub used : (s : Source) (here all : List Name) (made : ℕ) (kinds : List NameKind) (at : ℕ) → Leads here all → length here ≤ made
    → use_fault s here kinds at ≡ None →
    uses (scene all made) (place_of s all at) kinds ≡ true
used s here all made kinds at leads enough h =
    let k = misfit_none (kind_in here (text_at s at)) kinds at h in
    let n = known s here all k.0 at leads k.1 in
    and_from _ _ (lt_test _ _ (omega (arith, n.within, enough))) (kind_fits _ k.0 kinds n.kind k.2)

-- handles that are used without a fault
pub handles_used : (s : Source) (here all : List Name) (made : ℕ) (ats : List ℕ) → Leads here all → length here ≤ made
    → first_some (handles_faults s here ats) ≡ None →
    all_used (scene all made) (map (place_of s all) ats) ≡ true
handles_used s here all made [] leads enough h = refl
handles_used s here all made (at ∷ ats) leads enough h =
    let p = first_parts _ _ h in
    and_from _ _ (used s here all made (kind.Handle ∷ []) at leads enough p.0) (handles_used s here all made ats leads enough p.1)

-- NAMES THAT ARE MADE

-- a name that is made fits, and afterwards as many names are made as are known
pub record IsMade (s : Source) (here after all : List Name) (made : ℕ) (k : NameKind) (at : ℕ) : Type 0 where
  pub fits : makes (scene all made) (place_of s all at) k ≡ true
  pub enough : length after ≤ max made (place_of s all at + 1)
  pub leads : Leads here all

same_among : (k : NameKind) → is_among k (k ∷ []) ≡ true
same_among kind.Array = refl
same_among kind.Slice = refl
same_among kind.View = refl
same_among kind.List = refl
same_among kind.Reference = refl
same_among kind.Map = refl
same_among kind.Stream = refl
same_among kind.Handle = refl

grown : (here : List Name) (new : Name) (made place : ℕ) → place ≡ length here → length (here ++ new ∷ []) ≤ max made (place + 1)
grown here new made place is = omega (arith, length-append here (new ∷ []), is)

make_known : (s : Source) (here all : List Name) (made : ℕ) (j k : NameKind) (at : ℕ) → Leads here all → length here ≤ made →
    kind_in here (text_at s at) ≡ Some j → is_among j (k ∷ []) ≡ true → IsMade s here here all made k at
make_known s here all made j k at leads enough is same =
    let n = known s here all j at leads is in
    record {
      fits = and_from _ _ (le_test _ _ (omega (arith, n.within, enough))) (kind_fits _ j (k ∷ []) n.kind same);
      enough = omega (arith, enough);
      leads = leads;
    }

kind_here : (names : List Name) (text : List ℕ) (place : ℕ) → place_in names text ≡ Some place → (j : NameKind) × (kind_in names text ≡ Some j)
kind_here names text place h =
    let x = some_at names place (place_within (is_called text) names place h) in
    (x.0.kind, ap (option_map (λ n. n.kind)) (found_at (is_called text) names place h ∙ x.1))

again : (o : Option NameKind) (j k : NameKind) → o ≡ Some j → agrees o k ≡ true → is_among j (k ∷ []) ≡ true
again o j k is h = rw is at h

make_new : (s : Source) (here all : List Name) (made : ℕ) (k : NameKind) (at : ℕ) → Leads (here ++ record { text = text_at s at; kind = k } ∷ []) all
    → length here ≤ made →
    place_in here (text_at s at) ≡ None → length here ≡ place_of s (here ++ record { text = text_at s at; kind = k } ∷ []) at →
    IsMade s here (here ++ record { text = text_at s at; kind = k } ∷ []) all made k at
make_new s here all made k at leads enough none place =
    let new : Name = record { text = text_at s at; kind = k } in
    let one : kind_in (here ++ new ∷ []) (text_at s at) ≡ Some k =
    ap (option_map (λ n. n.kind)) (found_last (is_called (text_at s at)) here new (not_found _ here none)
    ((bytes_eq-Decides (text_at s at) (text_at s at)).1 refl)) in
    let n = known s (here ++ new ∷ []) all k at leads one in
    let is : place_of s all at ≡ length here = n.stays ∙ sym place in
    record {
      fits = and_from _ _ (le_test _ _ (omega (arith, is, enough))) (kind_fits _ k (k ∷ []) n.kind (same_among k));
      enough = grown here new made _ is;
      leads = leads_on here (here ++ new ∷ []) all (record { more = new ∷ []; is = refl }) leads;
    }

-- a name that is made without a fault
pub make : (s : Source) (here all : List Name) (made : ℕ) (k : NameKind) (at : ℕ) → Leads (names_with s here (Some (at, k))) all → length here ≤ made →
    make_fault s here k at ≡ None → IsMade s here (names_with s here (Some (at, k))) all made k at
make s here all made k at leads enough h = by (place_in here (text_at s at)) refl
  where
    new : Name
    new = record { text = text_at s at; kind = k }

    agree : agrees (kind_in here (text_at s at)) k ≡ true
    agree = holds_from _ _ _ (first_parts _ _ h).0

    by : (o : Option ℕ) → place_in here (text_at s at) ≡ o → IsMade s here (names_with s here (Some (at, k))) all made k at
    by (Some place) is =
        let same : names_with s here (Some (at, k)) ≡ here = ap (λ o. cond (is_some o) here (here ++ new ∷ [])) is in
        let j = kind_here here (text_at s at) place is in
        subst (λ after. IsMade s here after all made k at) (sym same)
        (make_known s here all made j.0 k at (subst (λ after. Leads after all) same leads) enough j.1 (again _ j.0 k j.1 agree))
    by None is =
        let same : names_with s here (Some (at, k)) ≡ here ++ new ∷ [] = ap (λ o. cond (is_some o) here (here ++ new ∷ [])) is in
        subst (λ after. IsMade s here after all made k at) (sym same)
        (make_new s here all made k at (subst (λ after. Leads after all) same leads) enough is
        (subst (λ after. length here ≡ place_of s after at) same (first_made s here k at is)))
