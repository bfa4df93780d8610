use Rattle.std.proofs.Common.{◌∙◌, ap, List, ℕ}
use Rattle.boundary.specs.Texts.{Page, page, said, answer_numbers}
use Rattle.boundary.specs.Playing.{read_text}
use Rattle.boundary.proofs.Pages.{said-over}
use Rattle.boundary.proofs.exports.cutholyar_read.Goals as goal

pub returns : goal.returns
returns c =
    let places : List ℕ = c.args.out.now in
    let all = c.say_answer.ensures ∙ ap (λ r. said (answer_numbers r) (page places 0)) c.read.ensures.answers_as_the_questions_say ∙ said-over (read_text c.args.file.now) places in
    record {
      writes_the_text = ap (λ (p : Page). p.places) all;
      answers_how_much_it_wrote = ap (λ (p : Page). p.written) all;
    }
