use Rattle.std.proofs.Common.{rules, ◌≡◌, ◌∙◌, ◌<◌, Some, None, cond, length, sym, ap, subst}
use Rattle.std.specs.Str.{bytes_eq}
use Rattle.text_places.specs.Places.{bucket_of, first_of, place_of}
use Rattle.text_places.proofs.Putting.{put_first, put_other, apart_other}
use Rattle.text_places.proofs.places.TextPlaces.put.Goals as goal

pub invariant_of-self-in_ok-insert-in-Some : goal.invariant_of-self-in_ok-insert-in-Some
invariant_of-self-in_ok-insert-in-Some c =
    let firsts = c.self.inside.firsts.items in
    let many : c.len.result ≡ length firsts = search rules in
    let its : c.bucket_of-bucket.result ≡ bucket_of (length firsts) c.args.text.now =
    c.bucket_of-bucket.ensures.bucket ∙ ap (λ n. bucket_of n c.args.text.now) many in
    let used : first_of firsts c.bucket_of-bucket.result ≡ Some c.in-Some.field-0 = search rules in
    record {
      some_buckets = c.self.invariant.some_buckets;
      few_to_be = c.self.invariant.few_to_be;
      few_buckets = c.self.invariant.few_buckets;
      apart = apart_other firsts c.self.inside.others c.insert.new.self c.args.text.now c.args.place c.in-Some.field-0
          (ap (first_of firsts) (sym its) ∙ used) c.in_ok-insert-in-Some.ensures.updates c.self.invariant.apart;
    }

pub returns-in-None-clause-put : goal.returns-in-None-clause-put
returns-in-None-clause-put c = λ q.
    let firsts = c.self.inside.firsts.items in
    let many : c.len.result ≡ length firsts = search rules in
    let its : c.bucket_of-bucket.result ≡ bucket_of (length firsts) c.args.text.now =
    c.bucket_of-bucket.ensures.bucket ∙ ap (λ n. bucket_of n c.args.text.now) many in
    let free : first_of firsts c.bucket_of-bucket.result ≡ None = search rules in
    put_first firsts c.self.inside.others.entries (record { text = c.args.text; place = c.args.place }) c.bucket_of-bucket.result its
    (subst (λ n. c.bucket_of-bucket.result < n) many c.bucket_of-bucket.ensures.within) free c.self.invariant.apart q
    ∙ ap (cond (bytes_eq c.args.text.now q) (Some c.args.place)) (ap (λ v. place_of v q) c.self.view_is ∙ c.in_ok-open.ensures.same q)

pub returns-in_ok-insert-in-Some-clause-put : goal.returns-in_ok-insert-in-Some-clause-put
returns-in_ok-insert-in-Some-clause-put c = λ q.
    let firsts = c.self.inside.firsts.items in
    let many : c.len.result ≡ length firsts = search rules in
    let its : c.bucket_of-bucket.result ≡ bucket_of (length firsts) c.args.text.now =
    c.bucket_of-bucket.ensures.bucket ∙ ap (λ n. bucket_of n c.args.text.now) many in
    let used : first_of firsts c.bucket_of-bucket.result ≡ Some c.in-Some.field-0 = search rules in
    put_other firsts c.self.inside.others c.insert.new.self c.args.text.now c.args.place c.in-Some.field-0
    (ap (first_of firsts) (sym its) ∙ used) c.in_ok-insert-in-Some.ensures.updates
    (ap (λ v. place_of v c.args.text.now) c.self.view_is ∙ (c.in_ok-open.ensures.same c.args.text.now ∙ c.requires.new)) q
    ∙ ap (cond (bytes_eq c.args.text.now q) (Some c.args.place)) (ap (λ v. place_of v q) c.self.view_is ∙ c.in_ok-open.ensures.same q)
