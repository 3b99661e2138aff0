-- What is left after a fault.
use Rattle.std.proofs.Common.{◌≡◌, ◌++◌, ℕ, List, Option, Result, Ok, Err, IfErr, subst, sym}
use Rattle.std.specs.Prelude.{OnErr}
use Rattle.std.specs.Io.KnownBytes.{Appends}
use Rattle.std.proofs.KnownBytes.{Keeps-refl}
use Rattle.kq_model.specs.declared.trace.Trace.{Trace}
use Rattle.kq_projection.specs.Traced.{traced}
use Rattle.kq_split.specs.Texts.{IsText}
use Rattle.kq_split.specs.Written.{IsInputFault, IsRead, IsTextFault, LeavesBy}
use Rattle.kq_split.specs.declared.fault.Fault.{Fault}
use Rattle.kq_split.specs.declared.fault.Fault.TheVariants.{Usage, NoKqueue, Read, Trace as BadTrace, Memory, Write}
use Rattle.kq_split.specs.declared.wanted.Wanted.{Wanted}

module _ (w : Wanted) (given : Option (List ℕ)) (limit : ℕ) where
  pub input-left : (kept : Option (List ℕ)) (f : Fault) → IsInputFault given limit f → LeavesBy f w given limit kept kept
  input-left kept Usage h = absurd h
  input-left kept (NoKqueue at) h = absurd h
  input-left kept Read h = Keeps-refl kept
  input-left kept (BadTrace line fault) h = (h, Keeps-refl kept)
  input-left kept Memory h = Keeps-refl kept
  input-left kept Write h = absurd h

  module _ (trace : Trace) (read : IsRead given limit trace) where
    pub text-left : (kept : Option (List ℕ)) (f : Fault) → IsTextFault (traced trace) w f → LeavesBy f w given limit kept kept
    text-left kept Usage h = absurd h
    text-left kept (NoKqueue at) (names, absent) = ((trace, read, names, absent), Keeps-refl kept)
    text-left kept Read h = absurd h
    text-left kept (BadTrace line fault) h = absurd h
    text-left kept Memory h = Keeps-refl kept
    text-left kept Write h = absurd h

    pub part-left : (r : Result (Unit {0}) Fault) (before after : Option (List ℕ)) (text : List ℕ) → IsText (traced trace) w text
        → OnErr r ((done : List ℕ) × (rest : List ℕ) × (text ≡ done ++ rest) × Appends before after done) → IfErr r (λ f. f ≡ Write)
        → IfErr r (λ f. LeavesBy f w given limit before after)
    part-left (Ok x) before after text is part fault = tt
    part-left (Err f) before after text is (done, rest, cut, wrote) fault =
        subst (λ x. LeavesBy x w given limit before after) (sym fault) (record {
          trace = trace;
          read = read;
          done = done;
          rest = rest;
          is = subst (IsText (traced trace) w) cut is;
          wrote = wrote;
        })
