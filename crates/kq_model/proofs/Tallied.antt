-- What the code does with tallies is what the definitions do with lists.
use Rattle.std.proofs.Common.{◌≡◌, ℕ, not, List, [], ◌∷◌, ◌++◌, filter, Option, sym, ap, ◌∙◌}
use Rattle.std.proofs.lemmas.List.{map-append}
use Rattle.std.specs.Option.{option_map}
use Rattle.kq_model.specs.declared.change.Change.{Change}
use Rattle.kq_model.specs.declared.key.Key.{Key}
use Rattle.kq_model.specs.declared.object.Hint.{Hint}
use Rattle.kq_model.specs.declared.reply.Reply.{Reply}
use Rattle.kq_model.specs.Call as call
use Rattle.kq_model.specs.Caller.{Caller}
use Rattle.kq_model.specs.Clock.{Span, clocked}
use Rattle.kq_model.specs.Close.{Pair, closed, is_of_number}
use Rattle.kq_model.specs.Following.{followed}
use Rattle.kq_model.specs.Hearing.{listed}
use Rattle.kq_model.specs.Tallying.{tallying}
use Rattle.kq_model.specs.Hints.{notified}
use Rattle.kq_model.specs.Alerting.{after_hint, is_done}
use Rattle.kq_model.specs.Knote.{Knote, find_knote, with_knote, without_knote}
use Rattle.kq_model.specs.Kqueue.{Kqueue}
use Rattle.kq_model.specs.Look.{look}
use Rattle.kq_model.specs.Recast.{tallied_knote, tallied_knotes, tallied, IsTallied}
use Rattle.kq_model.specs.Registration.{register}
use Rattle.kq_model.specs.Targets.{Posted}
use Rattle.kq_model.specs.Views.{Views}
use Rattle.kq_model.proofs.RecastCall.{call-recast}
use Rattle.kq_model.proofs.RecastKnote.{filter-recast, find_knote-recast, with_knote-recast, without_knote-recast, look-recast}
use Rattle.kq_model.proofs.RecastMoment.{after_hint-recast, is_done-recast, closed-recast, notified-recast, followed-recast, clocked-recast}
use Rattle.kq_model.proofs.RecastRegistration.{register-recast}
use Rattle.kq_model.proofs.RecastTally.{tally_of-map}

-- a knote of the code and the one of the definitions that it stands for
module _ (k : Knote tallying) (m : Knote listed) (same : k ≡ tallied_knote m) where
  pub look-tallied : (views : Views) → look views k ≡ look views m
  look-tallied views = ap (look views) same ∙ look-recast tally_of-map views m

  pub hint-tallied : (hint : Hint) → after_hint hint k ≡ tallied_knote (after_hint hint m)
  hint-tallied hint = ap (after_hint hint) same ∙ after_hint-recast tally_of-map hint m

  pub done-tallied : (hint : Hint) → is_done hint k ≡ is_done hint m
  done-tallied hint = ap (is_done hint) same ∙ is_done-recast tally_of-map hint m

-- knotes of the code and those of the definitions that they stand for
module _ (ks : List (Knote tallying)) (ms : List (Knote listed)) (same : ks ≡ tallied_knotes ms) where
  pub found-tallied : (key : Key) → find_knote key ks ≡ option_map tallied_knote (find_knote key ms)
  found-tallied key = ap (find_knote key) same ∙ find_knote-recast tally_of-map key ms

  pub attached-tallied : (k : Knote tallying) (m : Knote listed) → k ≡ tallied_knote m → ks ++ k ∷ [] ≡ tallied_knotes (ms ++ m ∷ [])
  attached-tallied k m one =
      ap (λ (l : List (Knote tallying)). l ++ k ∷ []) same
      ∙ ap (λ (n : Knote tallying). tallied_knotes ms ++ n ∷ []) one ∙ sym (map-append tallied_knote ms (m ∷ []))

  pub put-tallied : (k : Knote tallying) (m : Knote listed) → k ≡ tallied_knote m → with_knote k ks ≡ tallied_knotes (with_knote m ms)
  put-tallied k m one =
      ap (with_knote k) same ∙ ap (λ (n : Knote tallying). with_knote n (tallied_knotes ms)) one ∙ with_knote-recast tally_of-map m ms

  pub without-tallied : (key : Key) → without_knote key ks ≡ tallied_knotes (without_knote key ms)
  without-tallied key = ap (without_knote key) same ∙ without_knote-recast tally_of-map key ms

  pub without_number-tallied : (number : ℕ) → filter (λ (k : Knote tallying). not (is_of_number number k.key)) ks
      ≡ tallied_knotes (filter (λ (k : Knote listed). not (is_of_number number k.key)) ms)
  without_number-tallied number =
      ap (filter (λ (k : Knote tallying). not (is_of_number number k.key))) same
      ∙ filter-recast tally_of-map (λ key. not (is_of_number number key)) ms

-- a kqueue of the code and the one of the definitions that it stands for
module _ (kq : Kqueue tallying) (m : Kqueue listed) (same : kq ≡ tallied m) where
  pub register-tallied : (caller : Caller) (c : Change) → (register caller c kq).kq ≡ tallied (register caller c m).kq
  register-tallied caller c =
      ap (λ q. (register caller c q).kq) same ∙ ap (λ r. r.kq) (register-recast tally_of-map caller c m)

  pub register-error-tallied : (caller : Caller) (c : Change) → (register caller c kq).error ≡ (register caller c m).error
  register-error-tallied caller c =
      ap (λ q. (register caller c q).error) same ∙ ap (λ r. r.error) (register-recast tally_of-map caller c m)

  pub call-tallied : (caller : Caller) (room : ℕ) (changes : List Change) (after : Kqueue tallying) (reply : Reply)
      → ◌≡◌ {A = call.Called tallying} (record { kq = after; reply = reply }) (call.call caller room changes kq)
      → IsTallied after reply (call.call caller room changes m)
  call-tallied caller room changes after reply is =
      let e = is ∙ ap (call.call caller room changes) same ∙ call-recast tally_of-map caller room changes m in
      (ap (λ r. r.kq) e, ap (λ r. r.reply) e)

  pub closed-tallied : (owner : ℕ) (pairs : List Pair) → closed owner pairs kq ≡ tallied (closed owner pairs m)
  closed-tallied owner pairs = ap (closed owner pairs) same ∙ closed-recast tally_of-map owner pairs m

  pub notified-tallied : (views : Views) (posted : List Posted) → notified views posted kq ≡ tallied (notified views posted m)
  notified-tallied views posted = ap (notified views posted) same ∙ notified-recast tally_of-map views posted m

  pub followed-tallied : (version : ℕ) (posted : List Posted) → followed version posted kq ≡ tallied (followed version posted m)
  followed-tallied version posted = ap (followed version posted) same ∙ followed-recast tally_of-map version posted m

  pub clocked-tallied : (span : Option Span) → clocked span kq ≡ tallied (clocked span m)
  clocked-tallied span = ap (clocked span) same ∙ clocked-recast tally_of-map span m
