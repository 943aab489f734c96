-- What the code keeps of the sections of a file, and which words it has for those of the text.
use Rattle.std.specs.Prelude.{◌≡◌, codes, Some, option_map, pos}
use Rattle.toml.specs.Data.{Members}
use Rattle.gl_task_file.specs.Keys.{said, list_at}
use Rattle.gl_task_file.specs.Meaning.{Each, IsFinish, IsKind, IsStart, IsZone, asks_free, asks_triangle}
use Rattle.gl_task_file.specs.Values.{day, file_name, whole, KindWord, racing, area, ListWord, free, triangle}
use Rattle.gl_task_file.specs.declared.course.Course.{Course}
use Rattle.gl_task_file.specs.declared.lists.Lists.{Lists}
use Rattle.gl_task_file.specs.declared.opening.Day.{Day}
use Rattle.gl_task_file.specs.declared.word.KindWord as code_kind
use Rattle.gl_task_file.specs.declared.word.KindWord.TheVariants.{Racing, Area}
use Rattle.gl_task_file.specs.declared.word.ListWord as code_list
use Rattle.gl_task_file.specs.declared.word.ListWord.TheVariants.{Free, Triangle}

-- the day: its date, the kind of its task, its end and the airspace file
pub record IsDay (file : Members) (opening : Day) : Type 0 where
  pub date : said (codes "date") day file ≡ Some opening.date
  pub kind_is : IsKind file opening.kind
  pub closes : option_map pos (said (codes "closes") (whole 1 100_000) file) ≡ Some opening.closes
  pub airspace : said (codes "airspace") file_name file ≡ opening.airspace

-- the day, and the lists that are asked for
pub record IsHead (file : Members) (opening : Day) (lists : Lists) : Type 0 where
  pub day_is : IsDay file opening
  pub free_asked : lists.free ≡ asks_free (list_at (codes "lists") file)
  pub triangle_asked : lists.triangle ≡ asks_triangle (list_at (codes "lists") file)

-- the start, the zones and the finish
pub record IsCourse (file : Members) (course : Course) : Type 0 where
  pub start : IsStart file course.start
  pub zones : Each IsZone (list_at (codes "zone") file) course.zones
  pub finish : IsFinish file course.finish

abbrev pub kind_word : code_kind.KindWord → KindWord
kind_word Racing = racing
kind_word Area = area

abbrev pub asked_list : code_list.ListWord → ListWord
asked_list Free = free
asked_list Triangle = triangle
