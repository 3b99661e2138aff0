-- A sink that takes pieces one after the other.
use Rattle.std.proofs.Common.{Vec, Global, ◌≡◌, ℕ, ◌+◌, ◌<◌, ◌≤◌, List, [], ◌++◌, length, drop, get_or, sym, ap, subst, ◌∙◌, append_assoc, append-nil, add-one, drop-cons, arith, length-append}
use Rattle.std.proofs.lemmas.List.{drop_all}
use Rattle.std.specs.Prelude.{flat_map}
use Rattle.kq_model.specs.declared.event.Event.{Event}
use Rattle.kq_trace.specs.Sink.{TookSome}

abbrev pub events_in : List (Vec Event Global) → List Event
events_in pieces = flat_map (λ piece. piece.items) pieces

-- It took all but these pieces.
pub record IsTakenTo {A : Type 0} (took : A → List Event → Type 0) (before count : ℕ) (old new : A) (all : List Event) (ahead : List (Vec Event Global)) : Type 0 where
  pub done : List Event
  pub cut : all ≡ done ++ events_in ahead
  pub counted : count ≡ before + length done
  pub there : TookSome took count new
  pub more : (so_far : List Event) → length so_far ≡ before → took old so_far → took new (so_far ++ done)

pub none_taken : {A : Type 0} (took : A → List Event → Type 0) (before : ℕ) (it : A) (all : List Event) (pieces : List (Vec Event Global))
    → events_in pieces ≡ all → TookSome took before it → IsTakenTo took before before it it all pieces
none_taken took before it all pieces same there = record {
  done = [];
  cut = sym same;
  counted = omega arith;
  there = there;
  more = λ so_far long has. subst (took it) (sym (append-nil so_far)) has;
}

module _ {A : Type 0} (took : A → List Event → Type 0) (before count len : ℕ) (old mid new : A) (all : List Event)
    (pieces : List (Vec Event Global)) (i : ℕ) (other : Vec Event Global) (events : List Event)
    (so_far : IsTakenTo took before count old mid all (drop i pieces)) (lt : i < length pieces)
    (is : events ≡ (get_or pieces i other).items) (long : len ≡ length events)
    (more : (es : List Event) → length es ≡ count → took mid es → took new (es ++ events)) where
  ahead : all ≡ so_far.done ++ (events ++ events_in (drop (i + 1) pieces))
  ahead =
      so_far.cut ∙ ap (λ ps. so_far.done ++ events_in ps) (drop-cons pieces i other lt)
      ∙ ap (λ n. so_far.done ++ ((get_or pieces i other).items ++ events_in (drop n pieces))) (sym (add-one i))
      ∙ ap (λ es. so_far.done ++ (es ++ events_in (drop (i + 1) pieces))) (sym is)

  pub piece_taken : IsTakenTo took before (count + len) old new all (drop (i + 1) pieces)
  piece_taken = record {
    done = so_far.done ++ events;
    cut = ahead ∙ sym (append_assoc so_far.done events (events_in (drop (i + 1) pieces)));
    counted = omega (arith, so_far.counted, long, length-append so_far.done events);
    there = (
      so_far.there.0 ++ events,
      length-append so_far.there.0 events ∙ omega (arith, so_far.there.1, long),
      more so_far.there.0 so_far.there.1 so_far.there.2,
    );
    more = λ es long_before has.
        subst (took new) (append_assoc es so_far.done events)
        (more (es ++ so_far.done) (length-append es so_far.done ∙ omega (arith, so_far.counted, long_before)) (so_far.more es long_before has));
  }

pub all_taken : {A : Type 0} (took : A → List Event → Type 0) (before count : ℕ) (old new : A) (pieces : List (Vec Event Global)) (i : ℕ)
    → length pieces ≤ i → IsTakenTo took before count old new (events_in pieces) (drop i pieces)
    → (so_far : List Event) → length so_far ≡ before → took old so_far → took new (so_far ++ events_in pieces)
all_taken took before count old new pieces i end it so_far long has =
    let all : it.done ≡ events_in pieces =
    sym (it.cut ∙ ap (λ ps. it.done ++ events_in ps) (drop_all i pieces end) ∙ append-nil it.done) in
    subst (λ es. took new (so_far ++ es)) all (it.more so_far long has)
