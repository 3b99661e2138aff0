-- Over the whole life of a kqueue a timer is told its expirations, and its events tell them.
use Rattle.std.proofs.Common.{◌≡◌, ◌==◌, ℕ, zero, suc, ◌<◌, ◌≤◌, Bool, true, false, cond, eqb, not, inl, inr, List, [], ◌∷◌, min, pos, Option, Some, None, refl, sym, ap, ◌∙◌, subst, arith}
use Rattle.std.proofs.lemmas.Bool.{true≢false, and_parts, eqb-true}
use Rattle.std.proofs.lemmas.List.Elements.{All-nil}
use Rattle.std.proofs.lemmas.Option.{none-some, same_Some}
use Rattle.std.specs.Option.{option_and_then}
use Rattle.kq_model.specs.declared.change.Change.{Change}
use Rattle.kq_model.specs.declared.filter.Filter.{Filter}
use Rattle.kq_model.specs.declared.filter.Filter.TheVariants.{Timer}
use Rattle.kq_model.specs.declared.kevent.Kevent.{Kevent}
use Rattle.kq_model.specs.declared.key.Key.{Key}
use Rattle.kq_model.specs.declared.reply.Reply.{Reply}
use Rattle.kq_model.specs.declared.reply.Reply.TheVariants.{Done, Events, Failed, Impossible}
use Rattle.kq_model.specs.Bits.{asks, error}
use Rattle.kq_model.specs.Call.{call}
use Rattle.kq_model.specs.CallLaws.{Each, key_of_event, IsDue, IsAnswer, kqueue_after_changes}
use Rattle.kq_model.specs.Caller.{Caller}
use Rattle.kq_model.specs.Clock.{expires_at}
use Rattle.kq_model.specs.Hearing.{most_counted}
use Rattle.kq_model.specs.Hints.{notified}
use Rattle.kq_model.specs.Knote.{key_eq, find_knote}
use Rattle.kq_model.specs.Look.{Seen, count_seen, look_by, notice_or, look}
use Rattle.kq_model.specs.Retrieval.{event_of}
use Rattle.kq_model.specs.Tallied.{Knote, Kqueue}
use Rattle.kq_model.specs.Ticks.{last_moment}
use Rattle.kq_model.specs.NextTicks.{ticks_between}
use Rattle.kq_model.specs.Views.{Views}
use Rattle.kq_model.proofs.KeyLaws.{same_key, key_eq-refl}
use Rattle.kq_model.proofs.KnoteLaws.{by_test, find_knote-key}
use Rattle.kq_laws.specs.Life.{Life, Step, Closes, Hints, Passes, Calls, born, stepped, lived, KeepsTime, KeepTime}
use Rattle.kq_laws.specs.Timers.{timer, returns, returned_in, last_returned, expirations, Counts, CountsAll, TellsExpirations}
use Rattle.kq_laws.proofs.Counting.{ticks-most}
use Rattle.kq_laws.proofs.Lists.{found-is}
use Rattle.kq_laws.proofs.Told.{Told, IsTold, AreTold, closed-told, notified-told, followed-told, clocked-told}
use Rattle.kq_laws.proofs.ToldByCall.{call-told, process-told}

-- ---- the life

module _ (ident : ℕ) where
  -- since the moment at which it was last returned, which is past
  record IsToldIn (since : ℕ) (l : Life) : Type 0 where
    past : since ≤ l.now
    within : l.now ≤ last_moment
    told : AreTold ident since l.now l.kq.knotes

  not_after : (returns : Bool) (now since : ℕ) → since ≤ now → cond returns now since ≤ now
  not_after true now since past = omega arith
  not_after false now since past = past

  called-told : (caller : Caller) (changes : List Change) (room : ℕ) (l : Life) (since : ℕ) → caller.views.now ≡ l.now → IsToldIn since l
      → AreTold ident (returned_in (timer ident) (Calls caller changes room) l since) l.now (call caller room changes l.kq).kq.knotes
  called-told caller changes room l since same is =
      subst (λ (now : ℕ). since ≤ now → AreTold ident since now l.kq.knotes
      → AreTold ident (cond (returns (timer ident) (call caller room changes l.kq).reply) now since) now
      (call caller room changes l.kq).kq.knotes) same
      (λ past told. call-told ident since caller past room changes l.kq told) is.past is.told

  step-told : (s : Step) (l : Life) (since : ℕ) → KeepsTime s l → IsToldIn since l
      → IsToldIn (returned_in (timer ident) s l since) (stepped s l)
  step-told (Closes owner pairs) l since kept is = record {
    past = is.past;
    within = is.within;
    told = closed-told ident since l.now owner pairs l.kq is.told;
  }
  step-told (Hints posted views) l since kept is = record {
    past = is.past;
    within = is.within;
    told = followed-told ident since l.now l.version posted (notified views posted l.kq)
        (notified-told ident since l.now views posted l.kq is.told);
  }
  step-told (Passes moment) l since kept is = record {
    past = omega (arith, is.past, kept.0);
    within = kept.1;
    told = clocked-told ident since l.now moment l.kq is.past kept.0 kept.1 is.told;
  }
  step-told (Calls caller changes room) l since kept is = record {
    past = not_after (returns (timer ident) (call caller room changes l.kq).reply) l.now since is.past;
    within = is.within;
    told = called-told caller changes room l since kept is;
  }

  life-told : (steps : List Step) (l : Life) (since : ℕ) → KeepTime steps l → IsToldIn since l
      → IsToldIn (last_returned (timer ident) steps l since) (lived steps l)
  life-told [] l since kept is = is
  life-told (s ∷ steps) l since kept is =
      life-told steps (stepped s l) (returned_in (timer ident) s l since) kept.1 (step-told s l since kept.0 is)

-- ---- its events

count-datum : (n : ℕ) (seen : Seen) → count_seen n ≡ Some seen → seen.datum ≡ pos n
unfolding count_seen
count-datum n seen is =
    by_test (λ b. cond b None (Some (record { fflags = 0; datum = pos n; eof = false })) ≡ Some seen → seen.datum ≡ pos n)
    (eqb n 0) (λ _ e. absurd (none-some seen e))
    (λ _ e. sym (ap (λ (s : Seen). s.datum) (same_Some (record { fflags = 0; datum = pos n; eof = false }) seen e))) is

-- a timer shows how often it expired, and has no notice to show
look-timer : (views : Views) (k : Knote) (seen : Seen) → k.key.filter ≡ Timer → k.notice ≡ None
    → look views k ≡ Some seen → count_seen (min k.seen.count most_counted) ≡ Some seen
unfolding look look_by notice_or
look-timer views k seen of silent is =
    subst (λ (f : Filter). look_by f (option_and_then views.view k.target) k ≡ Some seen) of
    (subst (λ (n : Option ℕ). notice_or n (look_by k.key.filter (option_and_then views.view k.target) k) ≡ Some seen)
    silent is)

look-datum : (views : Views) (k : Knote) (seen : Seen) → k.key.filter ≡ Timer → k.notice ≡ None
    → look views k ≡ Some seen → seen.datum ≡ pos (min k.seen.count most_counted)
look-datum views k seen of silent is =
    count-datum (min k.seen.count most_counted) seen (look-timer views k seen of silent is)

-- it was told at least once
count-some : (n : ℕ) (seen : Seen) → count_seen n ≡ Some seen → 0 < n
unfolding count_seen
count-some zero seen is = absurd (none-some seen is)
count-some (suc n) seen is = omega arith

look-some : (views : Views) (k : Knote) (seen : Seen) → k.key.filter ≡ Timer → k.notice ≡ None
    → look views k ≡ Some seen → 0 < min k.seen.count most_counted
look-some views k seen of silent is =
    count-some (min k.seen.count most_counted) seen (look-timer views k seen of silent is)

some_period : (n : ℕ) → (n == 0) ≡ false → 0 < n
some_period zero goes = absurd (true≢false goes)
some_period (suc n) goes = omega arith

event-datum : (k : Knote) (seen : Seen) → (event_of k seen).datum ≡ seen.datum
unfolding event_of
event-datum k seen = refl

module _ (ident since now : ℕ) (views : Views) (ks : List Knote) (within : now ≤ last_moment) (all : AreTold ident since now ks) where
  told-count : (k : Knote) → Told since now k → 0 < min k.seen.count most_counted
      → min k.seen.count most_counted ≡ expirations k since now
  told-count k told some =
      by_test (λ b. (k.period == 0) ≡ b → min k.seen.count most_counted ≡ cond b 1 (ticks_between (expires_at k) since now))
      (k.period == 0)
      (λ _ still. omega (arith, some, (told.once (eqb-true k.period 0 still)).0))
      (λ _ goes. omega (arith, told.count (some_period k.period goes), ticks-most (expires_at k) since now, within)) refl

  due-counts : (e : Kevent) → IsDue views ks e → Counts ident ks since now e
  due-counts e due is =
      let at : timer ident ≡ key_of_event e = same_key (timer ident) (key_of_event e) (and_parts (key_eq (timer ident) (key_of_event e)) (not (asks e.flags error)) is).0 in
      let found : find_knote (timer ident) ks ≡ Some due.knote = ap (λ (o : Key). find_knote o ks) at ∙ due.found in
      let of : timer ident ≡ due.knote.key = find_knote-key (timer ident) ks due.knote found in
      let told : Told since now due.knote =
      found-is (IsTold ident since now) (timer ident) ks due.knote all found
      (ap (key_eq (timer ident)) (sym of) ∙ key_eq-refl (timer ident)) in (
        due.knote,
        found,
        ap (λ (x : Kevent). x.datum) due.is ∙ event-datum due.knote due.seen
            ∙ look-datum views due.knote due.seen (sym (ap (λ (x : Key). x.filter) of)) told.notice due.holds
            ∙ ap pos (told-count due.knote told (look-some views due.knote due.seen
            (sym (ap (λ (x : Key). x.filter) of)) told.notice due.holds)),
      )

  all-count : (es : List Kevent) → Each (IsDue views ks) es → Each (Counts ident ks since now) es
  all-count [] due = tt
  all-count (e ∷ es) due = (due-counts e due.0, all-count es due.1)

  entries-count : (es : List Kevent) → Each (λ e. asks e.flags error ≡ true) es → Each (Counts ident ks since now) es
  entries-count [] entries = tt
  entries-count (e ∷ es) entries = (
    λ is. absurd (true≢false (sym (and_parts (key_eq (timer ident) (key_of_event e)) (not (asks e.flags error)) is).1
        ∙ ap not entries.0)),
    entries-count es entries.1,
  )

pub answer-counts : (ident since now room : ℕ) (views : Views) (kq after : Kqueue) (reply : Reply) → now ≤ last_moment
    → AreTold ident since now kq.knotes → IsAnswer views room kq after reply → CountsAll ident kq.knotes since now reply
answer-counts ident since now room views kq after Done within all is = tt
answer-counts ident since now room views kq after (Events es) within all (inl entries) =
    entries-count ident since now views kq.knotes within all es entries.entries
answer-counts ident since now room views kq after (Events es) within all (inr taken) =
    all-count ident since now views kq.knotes within all es taken.due
answer-counts ident since now room views kq after (Failed e) within all is = tt
answer-counts ident since now room views kq after (Impossible why) within all is = tt

-- ---- the law

pub tells_expirations : (ident : ℕ) (caller : Caller) (room : ℕ) (changes : List Change) (kq after : Kqueue) (reply : Reply)
    → IsAnswer caller.views room (kqueue_after_changes caller room changes kq) after reply
    → TellsExpirations ident caller room changes kq reply
tells_expirations ident caller room changes kq after reply answer birth views steps begins kept reached clock =
    let start = born caller.version birth views in
    let since = last_returned (timer ident) steps start birth in
    let is = life-told ident steps start birth kept
    (record { past = omega arith; within = begins; told = All-nil (IsTold ident birth birth) }) in
    let past : since ≤ caller.views.now = omega (arith, is.past, clock) in
    let told : AreTold ident since caller.views.now kq.knotes =
    subst (λ (now : ℕ). AreTold ident since now kq.knotes) (sym clock)
    (subst (λ (q : Kqueue). AreTold ident since (lived steps start).now q.knotes) reached is.told) in
    answer-counts ident since caller.views.now room caller.views (kqueue_after_changes caller room changes kq) after reply
    (omega (arith, is.within, clock)) (process-told ident since caller past room changes [] kq told) answer
