-- A moment without closes, hints and clock leaves each kqueue as it is before its call.
use Rattle.std.proofs.Common.{◌≡◌, ◌∙◌, ◌==◌, ◌&&◌, ℕ, Bool, true, false, not, List, [], ◌∷◌, filter, map, Some, None, refl, ap, ap₂}
use Rattle.kq_model.specs.declared.key.Key.{Key}
use Rattle.kq_model.specs.Close.{closed, has_pair, is_closed}
use Rattle.kq_model.specs.Descriptors.{Descriptor, without_closed}
use Rattle.kq_model.specs.Following.{all_forks}
use Rattle.kq_model.specs.Hints.{if_there, knotes_alerted, alerted, notified, queue_after_all, queue_alerted}
use Rattle.kq_model.specs.Clock.{clocked}
use Rattle.kq_model.specs.Knote.{watches_number}
use Rattle.kq_model.specs.Moment.{Moment, after_call, called_at, happened, kqueue_step}
use Rattle.kq_model.specs.System.{lived, stepped}
use Rattle.kq_model.specs.Tallied.{Knote, Kqueue, Live}
use Rattle.kq_model.specs.Views.{Views}
use Rattle.kq_model.specs.World.{Call}
use Rattle.kq_system.proofs.SilentLemmas.{none-follow}
use Rattle.kq_system.specs.SystemState.{IsQuiet}

pub all_kept : {X : Type 0} (p : X → Bool) (xs : List X) → ((x : X) → p x ≡ true) → filter p xs ≡ xs
all_kept p [] passes = refl
all_kept p (x ∷ xs) passes = rw (passes x) (ap (λ l. x ∷ l) (all_kept p xs passes))

-- a table of which nothing is closed
pub none_closed : (table : List Descriptor) → without_closed [] table ≡ table
none_closed table = all_kept (λ (d : Descriptor). not (has_pair d.pid d.number [])) table (λ d. refl)

not_both : (b : Bool) → not (b && false) ≡ true
not_both true = refl
not_both false = refl

pub closed_none : (owner : ℕ) (kq : Kqueue) → closed owner [] kq ≡ kq
unfolding closed
closed_none owner kq =
    ap₂ (λ (ks : List Knote) (queue : List Key). let k : Kqueue = record { knotes = ks; queue = queue } in k)
    (all_kept (λ (k : Knote). not (is_closed owner [] k.key)) kq.knotes (λ k. not_both (watches_number k.key.filter)))
    (all_kept (λ key. not (is_closed owner [] key)) kq.queue (λ key. not_both (watches_number key.filter)))

knotes_kept : (views : Views) (ks : List Knote) → knotes_alerted views [] ks ≡ ks
unfolding knotes_alerted alerted if_there
knotes_kept views [] = refl
knotes_kept views (k ∷ ks) = ap (λ rest. k ∷ rest) (knotes_kept views ks)

queue_kept : (views : Views) (ks : List Knote) (queue : List Key) → queue_after_all views [] ks queue ≡ queue
unfolding queue_after_all queue_alerted
queue_kept views [] queue = refl
queue_kept views (k ∷ ks) queue = queue_kept views ks queue

pub notified_none : (views : Views) (kq : Kqueue) → notified views [] kq ≡ kq
unfolding notified
notified_none views kq =
    ap₂ (λ (ks : List Knote) (queue : List Key). let k : Kqueue = record { knotes = ks; queue = queue } in k)
    (knotes_kept views kq.knotes) (queue_kept views kq.knotes kq.queue)

pub unhappened : (m : Moment) (owner : ℕ) (kq : Kqueue) → IsQuiet m → happened owner m kq ≡ kq
unfolding happened clocked all_forks
unhappened m owner kq quiet = rw (quiet.closed, quiet.hints, quiet.clock)
    (none-follow m.version [] (notified m.views [] (closed owner [] kq)) refl
    ∙ ap (notified m.views []) (closed_none owner kq) ∙ notified_none m.views kq)

-- ---- one live kqueue

-- a kqueue that is not called
pub uncalled : (m : Moment) (l : Live) → IsQuiet m → m.call ≡ None → stepped m l ≡ l
unfolding stepped kqueue_step after_call happened
uncalled m l quiet none = rw none (ap (λ (kq : Kqueue). record l { kq = kq }) (unhappened m l.owner l.kq quiet))

pub called_other : (m : Moment) (c : Call) (l : Live) → IsQuiet m → m.call ≡ Some c → (c.kqueue == l.place) ≡ false
    → stepped m l ≡ l
unfolding stepped kqueue_step after_call happened
called_other m c l quiet call other = rw (call, other) (ap (λ (kq : Kqueue). record l { kq = kq })
    (unhappened m l.owner l.kq quiet))

pub called_one : (m : Moment) (c : Call) (l : Live) → m.call ≡ Some c → (c.kqueue == l.place) ≡ true
    → stepped m l ≡ record l { kq = (called_at l.owner m c l.kq).kq }
unfolding stepped kqueue_step after_call happened
called_one m c l call this = rw (call, this) refl

-- ---- all live kqueues

pub lived_each : (m : Moment) (live : List Live) → IsQuiet m → lived m live ≡ map (stepped m) live
unfolding lived
lived_each m live quiet =
    ap (map (stepped m)) (rw quiet.closed (all_kept (λ (l : Live). not (has_pair l.owner l.number [])) live
    (λ l. refl)))

each_uncalled : (m : Moment) (live : List Live) → IsQuiet m → m.call ≡ None → map (stepped m) live ≡ live
each_uncalled m [] quiet none = refl
each_uncalled m (l ∷ ls) quiet none = ap₂ (λ (l : Live) (rest : List Live). l ∷ rest) (uncalled m l quiet none)
    (each_uncalled m ls quiet none)

pub lived_none : (m : Moment) (live : List Live) → IsQuiet m → m.call ≡ None → lived m live ≡ live
lived_none m live quiet none = lived_each m live quiet ∙ each_uncalled m live quiet none
