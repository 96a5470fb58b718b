use Rattle.std.proofs.Common.{arith, rules, ◌≡◌, ◌∙◌, ◌<◌, ◌-◌, ◌^◌, Some, None, true, is_some, unwrap_or, refl, sym, ap, subst, length, map}
use Rattle.std.proofs.lemmas.List.{length-map}
use Rattle.std.specs.Str.{bytes_eq}
use Rattle.script_names.specs.Names.{place_in, kind_in}
use Rattle.script_names.specs.Index.{known_of, bucket_of, first_of}
use Rattle.script_names.proofs.IndexLemmas.{index_first, found_first, named_new}
use Rattle.script_names.proofs.PlaceLemmas.{kind_found, kind_missing, known_already, new_place}
use Rattle.script_names.proofs.names.Names.find_or_make.Goals as goal

pub invariant_of-self-in-None : goal.invariant_of-self-in-None
invariant_of-self-in-None c =
    let firsts = c.self.inside.firsts in
    let entries = c.self.inside.entries.items in
    let at : c.len-place.result ≡ length entries = search rules in
    let room : length entries < 2 ^ 32 - 1 = omega (arith, c.self.invariant.few, at, c.if-place.false) in
    let many : c.len.result ≡ length firsts = search rules in
    let its : c.bucket_of-bucket.result ≡ bucket_of (length firsts) c.args.text.now =
    c.bucket_of-bucket.ensures.bucket ∙ ap (λ n. bucket_of n c.args.text.now) many in
    let empty : first_of firsts c.bucket_of-bucket.result ≡ None = search rules in
    rw c.set.ensures (rw c.in_ok-push-in-None.ensures.items
    (index_first firsts c.self.inside.others entries (record { text = c.args.text; kind = c.args.kind }) c.bucket_of-bucket.result c.len-place.result at
    c.self.invariant room its (subst (λ n. c.bucket_of-bucket.result < n) many c.bucket_of-bucket.ensures.within)
    (ap (first_of firsts) (sym its) ∙ empty)))

pub returns-then-is_same-clause-place : goal.returns-then-is_same-clause-place
returns-then-is_same-clause-place c =
    let firsts = c.self.inside.firsts in
    let many : c.len.result ≡ length firsts = search rules in
    let its : c.bucket_of-bucket.result ≡ bucket_of (length firsts) c.args.text.now =
    c.bucket_of-bucket.ensures.bucket ∙ ap (λ n. bucket_of n c.args.text.now) many in
    let used : first_of firsts c.bucket_of-bucket.result ≡ Some c.in-Some.first = search rules in
    let same : bytes_eq c.index-entry.result.now.text.now c.args.text.now ≡ true = search rules in
    found_first firsts c.self.inside.others c.self.inside.entries.items c.args.self.now c.args.text.now c.in-Some.first c.index-entry.result.now
    c.self.view_is c.self.invariant (ap (first_of firsts) (sym its) ∙ used) c.index-entry.ensures same

pub returns-then-is_same-clause-kind : goal.returns-then-is_same-clause-kind
returns-then-is_same-clause-kind c =
    let found : kind_in c.args.self.now c.args.text.now ≡ Some c.index-entry.result.now.kind =
    subst (λ names. kind_in names c.args.text.now ≡ Some c.index-entry.result.now.kind) c.self.view_is
    (kind_found c.self.inside.entries.items c.args.text.now c.in-Some.first c.index-entry.result.now (rw c.self.view_is (returns-then-is_same-clause-place c))
    c.index-entry.ensures) in
    sym (ap (λ o. unwrap_or o c.args.kind) found)

pub returns-then-is_same-clause-names : goal.returns-then-is_same-clause-names
returns-then-is_same-clause-names c = known_already c.args.self.now c.args.text.now c.args.kind c.in-Some.first (returns-then-is_same-clause-place c)

-- no name is in its bucket, so it is none of them
pub returns-in_ok-push-in-None-clause-place : goal.returns-in_ok-push-in-None-clause-place
returns-in_ok-push-in-None-clause-place c =
    let firsts = c.self.inside.firsts in
    let entries = c.self.inside.entries.items in
    let at : c.len-place.result ≡ length entries = search rules in
    let many : c.len.result ≡ length firsts = search rules in
    let its : c.bucket_of-bucket.result ≡ bucket_of (length firsts) c.args.text.now =
    c.bucket_of-bucket.ensures.bucket ∙ ap (λ n. bucket_of n c.args.text.now) many in
    let empty : first_of firsts c.bucket_of-bucket.result ≡ None = search rules in
    let none = c.self.invariant.missing c.args.text.now (ap (first_of firsts) (sym its) ∙ empty) in
    ap (λ ns. place_in ns c.args.text.now) (ap (map known_of) c.in_ok-push-in-None.ensures.items
    ∙ named_new entries (map known_of entries) (record { text = c.args.text; kind = c.args.kind }) refl (ap is_some none))
    ∙ (new_place (map known_of entries) c.args.text.now c.args.kind none
    ∙ ap (λ n. Some n) (length-map entries known_of ∙ sym at))

pub returns-in_ok-push-in-None-clause-kind : goal.returns-in_ok-push-in-None-clause-kind
returns-in_ok-push-in-None-clause-kind c =
    let firsts = c.self.inside.firsts in
    let entries = c.self.inside.entries.items in
    let many : c.len.result ≡ length firsts = search rules in
    let its : c.bucket_of-bucket.result ≡ bucket_of (length firsts) c.args.text.now =
    c.bucket_of-bucket.ensures.bucket ∙ ap (λ n. bucket_of n c.args.text.now) many in
    let empty : first_of firsts c.bucket_of-bucket.result ≡ None = search rules in
    let none = c.self.invariant.missing c.args.text.now (ap (first_of firsts) (sym its) ∙ empty) in
    sym (ap (λ o. unwrap_or o c.args.kind) (subst (λ names. kind_in names c.args.text.now ≡ None) c.self.view_is
    (kind_missing (map known_of entries) c.args.text.now none)))
