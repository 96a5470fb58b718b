use Rattle.std.proofs.Common.{arith, rules, ◌≡◌, ◌∙◌, ◌<◌, ◌-◌, ◌^◌, Some, None, is_some, sym, ap, subst, length, map}
use Rattle.std.proofs.lemmas.List.{length-map}
use Rattle.script_names.specs.Names.{place_in}
use Rattle.script_names.specs.Index.{known_of, bucket_of, first_of}
use Rattle.script_names.proofs.NameLemmas.{on_ok}
use Rattle.script_names.proofs.IndexLemmas.{index_first, index_other, not_other, named_new}
use Rattle.script_names.proofs.names.Names.make.Goals as goal

pub invariant_of-self-in-None : goal.invariant_of-self-in-None
invariant_of-self-in-None c =
    let firsts = c.self.inside.firsts in
    let entries = c.self.inside.entries.items in
    let room : length entries < 2 ^ 32 - 1 = omega (arith, c.requires.room, ap length c.self.view_is, length-map entries known_of) in
    let at : c.len-place.result ≡ length entries = search rules in
    let many : c.len.result ≡ length firsts = search rules in
    let its : c.bucket_of-bucket.result ≡ bucket_of (length firsts) c.args.text.now =
    c.bucket_of-bucket.ensures.bucket ∙ ap (λ n. bucket_of n c.args.text.now) many in
    let empty : first_of firsts c.bucket_of-bucket.result ≡ None = search rules in
    rw c.set.ensures (rw c.in_ok-push-in-None.ensures.items
    (index_first firsts c.self.inside.others entries (record { text = c.args.text; kind = c.args.kind }) c.bucket_of-bucket.result c.len-place.result at
    c.self.invariant room its (subst (λ n. c.bucket_of-bucket.result < n) many c.bucket_of-bucket.ensures.within)
    (ap (first_of firsts) (sym its) ∙ empty)))

pub invariant_of-self-else-is_err : goal.invariant_of-self-else-is_err
invariant_of-self-else-is_err c =
    let firsts = c.self.inside.firsts in
    let entries = c.self.inside.entries.items in
    let room : length entries < 2 ^ 32 - 1 = omega (arith, c.requires.room, ap length c.self.view_is, length-map entries known_of) in
    let at : c.len-place.result ≡ length entries = search rules in
    let many : c.len.result ≡ length firsts = search rules in
    let its : c.bucket_of-bucket.result ≡ bucket_of (length firsts) c.args.text.now =
    c.bucket_of-bucket.ensures.bucket ∙ ap (λ n. bucket_of n c.args.text.now) many in
    let used : first_of firsts c.bucket_of-bucket.result ≡ Some c.in-Some.field-0 = search rules in
    rw c.in_ok-push-in-Some.ensures.items
    (index_other firsts c.self.inside.others c.put.new.self entries (record { text = c.args.text; kind = c.args.kind }) c.len-place.result
    c.in-Some.field-0 at c.self.invariant room (ap (first_of firsts) (sym its) ∙ used)
    (ap (λ ns. place_in ns c.args.text.now) c.self.view_is ∙ c.requires.new)
    (on_ok _ _ (sym c.is_err.ensures.value ∙ c.if-is_err.false) c.put.ensures.put))

pub returns-else-is_err : goal.returns-else-is_err
returns-else-is_err c =
    let entries = c.self.inside.entries.items in
    ap (map known_of) c.in_ok-push-in-Some.ensures.items
    ∙ named_new entries c.args.self.now (record { text = c.args.text; kind = c.args.kind }) c.self.view_is (ap is_some c.requires.new)

-- the first name of its bucket is another, and it is none of the others
pub put-requires : goal.put-requires
put-requires c =
    let firsts = c.self.inside.firsts in
    let many : c.len.result ≡ length firsts = search rules in
    let its : c.bucket_of-bucket.result ≡ bucket_of (length firsts) c.args.text.now =
    c.bucket_of-bucket.ensures.bucket ∙ ap (λ n. bucket_of n c.args.text.now) many in
    let used : first_of firsts c.bucket_of-bucket.result ≡ Some c.in-Some.field-0 = search rules in
    record {
      new = not_other firsts c.self.inside.others c.self.inside.entries.items (record { text = c.args.text; kind = c.args.kind }) c.in-Some.field-0
          c.self.invariant (ap (first_of firsts) (sym its) ∙ used) (ap (λ ns. place_in ns c.args.text.now) c.self.view_is ∙ c.requires.new);
    }
