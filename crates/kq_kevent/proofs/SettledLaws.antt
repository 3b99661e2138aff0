-- An active knote that plain hints tell nothing new stays as it is, and the kqueue with it.
use Rattle.std.proofs.Common.{ℕ, ◌≡◌, Bool, true, false, cond, ◌&&◌, ◌||◌, List, [], ◌∷◌, Some, refl, sym, ap, ap₂, ◌∙◌, subst}
use Rattle.std.proofs.lemmas.Bool.{true≢false}
use Rattle.std.specs.Int.Bits.{or_zero_r}
use Rattle.kq_model.specs.declared.filter.Filter.{Filter}
use Rattle.kq_model.specs.declared.filter.Filter.TheVariants.{Read, Write, Vnode, Proc, Signal, Timer, User, Aio, Lio, Fs, Procdesc, Sendfile, Empty}
use Rattle.kq_model.specs.declared.object.Hint.{Hint}
use Rattle.kq_model.specs.declared.object.Hint.TheVariants.{Readable, Writable, Note, Delivered, Child}
use Rattle.kq_model.specs.Hearing.{Told, notes_of}
use Rattle.kq_model.specs.Tallying.{Tally, tallying}
use Rattle.kq_model.specs.Hints.{takes, kept, is_exit, added, hints_for, notified}
use Rattle.kq_model.specs.Alerting.{after_hint, is_done}
use Rattle.kq_model.specs.Knote.{has_nothing, find_knote}
use Rattle.kq_model.specs.Kqueue.{IsSound}
use Rattle.kq_model.specs.Look.{look}
use Rattle.kq_model.specs.Alerting.{is_for, left_by, with_alerted, alerted_in, alerted_at}
use Rattle.kq_model.specs.Tallied.{Knote, Kqueue}
use Rattle.kq_model.specs.Targets.{Posted}
use Rattle.kq_model.specs.Views.{Views}
use Rattle.kq_model.proofs.KnoteLaws.{by_test, with_knote-own}
use Rattle.kq_knote.specs.Index.{hinted_keys}
use Rattle.kq_kevent.specs.declared.notify.Telling.{Telling}
use Rattle.kq_kevent.specs.Telling.{is_plain, told_one, told_all, AreLeft}
use Rattle.kq_kevent.proofs.NotifyLaws.{keys-start, keys-go, keys-end}
use Rattle.kq_kevent.proofs.SoundLaws.{kept-queue}
use Rattle.kq_kevent.proofs.TellLaws.{activated-already, telling, told-alerted, untold-alerted}
use Rattle.kq_kevent.proofs.TurnLaws.{kqueue_of}

or_false : (b : Bool) → b || false ≡ b
or_false true = refl
or_false false = refl

-- ---- a plain hint

exit-plain : (f : Filter) (hint : Hint) → is_plain hint ≡ true → is_exit f hint ≡ false
unfolding is_plain is_exit
exit-plain Proc Readable plain = refl
exit-plain Proc Writable plain = refl
exit-plain Proc (Note bits) plain = absurd (true≢false (sym plain))
exit-plain Proc Delivered plain = refl
exit-plain Proc (Child pid) plain = refl
exit-plain Read hint plain = refl
exit-plain Write hint plain = refl
exit-plain Vnode hint plain = refl
exit-plain Signal hint plain = refl
exit-plain Timer hint plain = refl
exit-plain User hint plain = refl
exit-plain Aio hint plain = refl
exit-plain Lio hint plain = refl
exit-plain Fs hint plain = refl
exit-plain Procdesc hint plain = refl
exit-plain Sendfile hint plain = refl
exit-plain Empty hint plain = refl

-- a tally with these notes
abbrev with_notes : Tally → ℕ → Tally
with_notes t notes = record t { notes = notes }

-- nothing is kept of it
heard-plain : (hint : Hint) (t : Tally) → is_plain hint ≡ true → tallying.heard (Told hint) t ≡ t
unfolding is_plain notes_of
heard-plain Readable t plain = ap (with_notes t) (or_zero_r t.notes)
heard-plain Writable t plain = ap (with_notes t) (or_zero_r t.notes)
heard-plain (Note bits) t plain = absurd (true≢false (sym plain))
heard-plain Delivered t plain = absurd (true≢false (sym plain))
heard-plain (Child pid) t plain = absurd (true≢false (sym plain))

added-plain : (hint : Hint) (k : Knote) → is_plain hint ≡ true → added (kept k.fflags hint) k ≡ k
unfolding is_plain added kept
added-plain Readable k plain = ap (λ (t : Tally). record k { seen = t }) (heard-plain Readable k.seen plain)
added-plain Writable k plain = ap (λ (t : Tally). record k { seen = t }) (heard-plain Writable k.seen plain)
added-plain (Note bits) k plain = absurd (true≢false (sym plain))
added-plain Delivered k plain = absurd (true≢false (sym plain))
added-plain (Child pid) k plain = absurd (true≢false (sym plain))

-- it leaves the knote as it is
pub after-plain : (hint : Hint) (k : Knote) → is_plain hint ≡ true → (after_hint hint k ≡ k) × (is_done hint k ≡ false)
unfolding after_hint is_done
after-plain hint k plain =
    let exits = exit-plain k.key.filter hint plain in
    let heard : cond (takes k.key.filter hint) (added (kept k.fflags hint) k) k ≡ k =
    by_test (λ b. cond b (added (kept k.fflags hint) k) k ≡ k) (takes k.key.filter hint) (λ _. added-plain hint k plain) (λ _. refl) in (
      ap₂ (λ (n : Knote) b. record n { oneshot = k.oneshot || b }) heard exits ∙ ap (λ b. record k { oneshot = b }) (or_false k.oneshot),
      ap (λ b. b && has_nothing (after_hint hint k)) exits,
    )

-- ---- all hints of a record

abbrev IsLeft : Knote → Bool → Telling → Type 0
IsLeft k d t = (t.knote ≡ k) × (t.done ≡ d)

told-left : (posted : List Posted) (k : Knote) (a d : Bool) → AreLeft k posted → IsLeft k d (told_all posted (telling k a d))
unfolding told_all told_one
told-left [] k a d left = (refl, refl)
told-left (p ∷ posted) k a d left =
    by_test (λ b. is_for k p ≡ b → IsLeft k d (told_all posted (cond b (telling (after_hint p.1 k) true (d || is_done p.1 k)) (telling k a d)))) (is_for k p)
    (λ _ on. let same = left.0 on in
    subst (λ (t : Telling). IsLeft k d (told_all posted t))
    (sym (ap₂ (λ (n : Knote) b. telling n true (d || b)) same.0 same.1 ∙ ap (telling k true) (or_false d)))
    (told-left posted k true d left.1))
    (λ _ _. told-left posted k a d left.1) refl

pub settled : (views : Views) (posted : List Posted) (kq : Kqueue) (k : Knote) → IsSound kq → find_knote k.key kq.knotes ≡ Some k
    → k.active ≡ true → AreLeft k posted → alerted_in views (hints_for k posted) k kq ≡ kq
unfolding with_alerted
settled views posted kq k sound there active left =
    let t = told_all posted (telling k false false) in
    let parts = told-left posted k false false left in
    let stays : with_alerted t.knote (left_by views t.done t.knote) kq ≡ kq =
    ap₂ (λ (n : Knote) b. with_alerted n (left_by views b n) kq) parts.0 parts.1
    ∙ ap (λ (n : Knote). with_alerted k (Some n) kq) (activated-already (look views k) k active)
    ∙ ap₂ kqueue_of (with_knote-own k kq.knotes sound.own_keys there) (kept-queue kq k k sound there active refl) in
    by_test (λ b. t.any ≡ b → alerted_in views (hints_for k posted) k kq ≡ kq) t.any
    (λ _ any. sym (told-alerted views posted kq k t refl any) ∙ stays)
    (λ _ none. sym (untold-alerted views posted kq k t refl none)) refl

-- where it is the one knote that hints are for, so does the kqueue as a whole
pub settled-lone : (views : Views) (posted : List Posted) (kq : Kqueue) (k : Knote) → IsSound kq → find_knote k.key kq.knotes ≡ Some k
    → hinted_keys posted kq.knotes ≡ k.key ∷ [] → k.active ≡ true → AreLeft k posted → notified views posted kq ≡ kq
unfolding alerted_at
settled-lone views posted kq k sound there lone active left =
    let wanted = notified views posted kq in
    let stays = ap (λ o. alerted_at views posted o kq) there ∙ settled views posted kq k sound there active left in
    sym (keys-end views posted wanted kq
    (keys-go views posted wanted k.key [] kq sound.own_keys (keys-start views posted kq (k.key ∷ []) (sym lone)) kq (sym stays)))
