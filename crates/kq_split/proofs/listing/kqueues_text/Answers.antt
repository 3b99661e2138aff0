use Rattle.std.proofs.Common.{◌≡◌, ◌∙◌, ◌∷◌, ◌+◌, ◌++◌, ℕ, List, [], drop, length, refl, sym, ap, subst, arith, append-nil, append_assoc}
use Rattle.std.proofs.lemmas.List.{at_drop_more, at_drop_all}
use Rattle.kq_projection.specs.Traced.{places_of}
use Rattle.kq_split.specs.Texts.{AreKqueueLines}
use Rattle.kq_split.proofs.listing.kqueues_text.Goals as goal

pub loop-kqueue-preserved : goal.loop-kqueue-preserved
loop-kqueue-preserved c rest lines =
    let t = c.args.split.now in
    let i = c.loop-kqueue.kqueue-index in
    let shown = c.kqueues-kqueue-items.result.now in
    let same = c.kqueues-kqueue-items.ensures.places in
    let before = c.loop-kqueue.text.items in
    let (line, is, added) = c.in_ok-put_kqueue.ensures in
    let later = subst (λ (ps : List ℕ). AreKqueueLines t (drop (i + 1) ps) rest) (sym same) lines in
    let next = subst (λ (l : List ℕ). AreKqueueLines t l (line ++ rest)) (sym (at_drop_more (λ (l : List ℕ). l) shown i 0 (omega arith)))
    (line, rest, is, later, refl) in
    subst (AreKqueueLines t (places_of t)) (sym (ap (λ text. text ++ rest) added.is ∙ append_assoc before line rest))
    (c.loop-kqueue.invariant (line ++ rest) (subst (λ (ps : List ℕ). AreKqueueLines t (drop i ps) (line ++ rest)) same next))

pub returns : goal.returns
returns c =
    let t = c.args.split.now in
    let i = c.loop-kqueue.kqueue-index in
    let shown = c.kqueues-kqueue-items.result.now in
    let same = c.kqueues-kqueue-items.ensures.places in
    let none = subst (λ (l : List ℕ). AreKqueueLines t l []) (sym (at_drop_all (λ (l : List ℕ). l) shown i (omega arith))) refl in
    subst (AreKqueueLines t (places_of t)) (append-nil c.loop-kqueue.text.items)
    (c.loop-kqueue.invariant [] (subst (λ (ps : List ℕ). AreKqueueLines t (drop i ps) []) same none))
