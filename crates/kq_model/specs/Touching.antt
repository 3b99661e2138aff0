-- Which targets what is noted can change for a filter: the object itself, and of a file also each open
-- description on it, whose view has the file's size.
use Rattle.std.specs.Prelude.{◌==◌, ℕ, Bool, false, ◌||◌, List, [], ◌∷◌, Option, None, Some}
use Rattle.kq_model.specs.declared.doing.Doing.{Doing}
use Rattle.kq_model.specs.declared.doing.Doing.TheVariants.{ToSocket, ToPipe, ToDescription, ToFile}
use Rattle.kq_model.specs.declared.object.Target.{Target}
use Rattle.kq_model.specs.declared.object.Target.TheVariants.{Socket, Pipe, Open, File}
use Rattle.kq_model.specs.Files.{DescriptionState}
use Rattle.kq_model.specs.Objects.{Objects, counted}

-- whether the description is one of this file
unfoldable pub is_on : ℕ → Option DescriptionState → Bool
is_on number None = false
is_on number (Some s) = number == s.file

unfoldable pub touches : Target → Doing → Objects counted → Bool
touches (Socket place) (ToSocket p r) o = p == place
touches (Pipe place) (ToPipe p r) o = p == place
touches (Open place) (ToDescription p r) o = p == place
touches (Open place) (ToFile number r) o = is_on number (o.description place)
touches (File number) (ToFile n r) o = n == number
touches _ _ o = false

unfoldable pub touched_by : Target → List Doing → Objects counted → Bool
touched_by t [] o = false
touched_by t (d ∷ ds) o = touches t d o || touched_by t ds o
