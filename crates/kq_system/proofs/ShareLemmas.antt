-- The step of a share: no kqueue of others is made in it.
use Rattle.std.proofs.Common.{◌≡◌, ◌∙◌, ◌++◌, inl, inr, ℕ, Bool, true, false, cond, List, [], filter, Option, None, Some, refl, sym, ap, append-nil}
use Rattle.std.proofs.lemmas.List.Elements.{All-filter, filter-append}
use Rattle.kq_model.specs.declared.event.Event.{Event}
use Rattle.kq_model.specs.declared.event.Event.TheVariants as event
use Rattle.kq_model.specs.declared.reply.Reply.{Reply}
use Rattle.kq_model.specs.declared.reply.Reply.TheVariants as reply
use Rattle.kq_model.specs.declared.why.Why.{Why}
use Rattle.kq_model.specs.ClosedNumbers.{ClosesAll, HasNoneOf}
use Rattle.kq_model.specs.Plans.{plan}
use Rattle.kq_model.specs.Shares.{own_step, share, share_step, BearsOwn}
use Rattle.kq_model.specs.System.{born, step}
use Rattle.kq_model.specs.Tallied.{Live, System, World}
use Rattle.kq_model.specs.World.{Plan, Planned, Impossible, Possible, carried_out, idle, seen_world}
use Rattle.kq_model.proofs.ShareSteps.{kept-system}
use Rattle.kq_system.specs.Sharing.{IsOwnShare, IsStepBeside}
use Rattle.kq_system.specs.SystemState.{IsStep}
use Rattle.kq_system.proofs.ClockLemmas.{goes}
use Rattle.kq_system.proofs.ClosedLemmas.{closes_all}
use Rattle.kq_system.proofs.PlainPlans.{other-plain}
use Rattle.kq_system.proofs.StepLemmas.{kevent_plan, possible_call}
use Rattle.kq_system.proofs.SystemLemmas.{impossible, opened}

-- no other record makes a kqueue
pub no-birth : (e : Event) → ((pid fd : ℕ) → e ≡ event.Kqueue pid fd → ⊥) → (place : ℕ) (w : World) (p : Plan) → plan place e w ≡ Possible p
    → p.born ≡ None
no-birth (event.Kqueue pid fd) makes place w p is = absurd (makes pid fd refl)
no-birth (event.Kevent pid fd changes room) makes place w p is =
    ap (λ (q : Plan). q.born) (possible_call pid fd room changes w p (sym (kevent_plan place pid fd room changes w) ∙ is)).plan_is
no-birth (event.Clock ns) makes place w p is = (goes place ns w p is).moves.born
no-birth e makes place w p is = (other-plain e tt).born place w p is

bears-none : (own : Option ℕ → Bool) (place : ℕ) (q : Planned) → ((p : Plan) → q ≡ Possible p → p.born ≡ None) → BearsOwn own place q
bears-none own place (Impossible why) none = tt
bears-none own place (Possible p) none = inl (none p refl)

bears-own : (own : Option ℕ → Bool) (place : ℕ) (q : Planned) → own (Some place) ≡ true → BearsOwn own place q
bears-own own place (Impossible why) mine = tt
bears-own own place (Possible p) mine = inr mine

module _ (own : Option ℕ → Bool) (place : ℕ) (e : Event) (old new : System) (r : Reply) (kept : IsOwnShare own old) (steps : IsStep place e old new r) where
  beside : BearsOwn own place (plan place e (seen_world old.world)) → IsStepBeside own place e old new r
  beside bears = (steps.0 ∙ sym (kept-system own place e old kept bears), steps.1)

  -- a record of its own
  pub beside-own : own (Some place) ≡ true → IsStepBeside own place e old new r
  beside-own mine = beside (bears-own own place (plan place e (seen_world old.world)) mine)

  -- a record that makes no kqueue
  pub beside-none : ((pid fd : ℕ) → e ≡ event.Kqueue pid fd → ⊥) → IsStepBeside own place e old new r
  beside-none makes =
      beside (bears-none own place (plan place e (seen_world old.world)) (λ p is. no-birth e makes place (seen_world old.world) p is))

-- ---- a record that makes one for others

module _ (own : Option ℕ → Bool) (place : ℕ) (e : Event) (old : System) (w : World) (kept : IsOwnShare own old) where
  pub refused-beside : (why : Why) → plan place e old.world ≡ Impossible why → w ≡ old.world
      → IsStepBeside own place e old (record old { world = w }) (reply.Impossible why)
  refused-beside why is same =
      let steps = impossible place e old why is in
      (ap (λ (v : World). record old { world = v }) same ∙ sym kept ∙ ap (share own) steps.0, steps.1)

  left-out : (pid number : ℕ) → own (Some place) ≡ false
      → filter (λ (l : Live). own (Some l.place)) (old.live ++ born place (Some (record { pid = pid; number = number }))) ≡ old.live
  unfolding born share
  left-out pid number others =
      filter-append (λ (l : Live). own (Some l.place)) old.live _
      ∙ ap (λ b. filter (λ (l : Live). own (Some l.place)) old.live ++ cond b (born place (Some (record { pid = pid; number = number }))) []) others
      ∙ append-nil _ ∙ ap (λ (s : System). s.live) kept

  pub passed-beside : (pid number : ℕ) (p : Plan) → plan place e old.world ≡ Possible p
      → p ≡ record idle { born = Some (record { pid = pid; number = number }) } → w ≡ carried_out place p old.world
      → own (Some place) ≡ false → IsStepBeside own place e old (record old { world = w }) reply.Done
  unfolding share
  passed-beside pid number p planned is world others =
      let steps = opened place pid number e p old w (old.live ++ born place (Some (record { pid = pid; number = number }))) planned is world refl in
      (ap (λ (live : List Live). record old { world = w; live = live }) (sym (left-out pid number others)) ∙ ap (share own) steps.0, steps.1)

-- ---- the kqueues of a share

-- no number that a record closed is left in them
pub share-closes : (own : Option ℕ → Bool) (place : ℕ) (e : Event) (old : System)
    → ClosesAll place e old (share_step own place e old).system
unfolding share_step own_step share
share-closes own place e old p is =
    let t = step place e old in
    All-filter (λ (l : Live). own (Some l.place)) (HasNoneOf p.closed) t.system.live
    (closes_all place e old t.system t.reply (refl, refl) p is)
