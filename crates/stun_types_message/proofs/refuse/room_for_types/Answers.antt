use Rattle.std.proofs.Common.{rules, ◌≡◌, length, None, Some, ap}
use Rattle.stun_types_attributes.specs.UnknownTypes.{types_refusal}
use Rattle.stun_types_message.specs.Objections.{unknown_refusal}
use Rattle.stun_types_message.proofs.Refusing.{no_room_first}
use Rattle.stun_types_message.proofs.refuse.room_for_types.Goals as goal

pub returns-in_err-end_of_add-clause-answer : goal.returns-in_err-end_of_add-clause-answer
returns-in_err-end_of_add-clause-answer g c =
    let few : types_refusal c.args.count ≡ None = search rules in
    let none : length ((g.W.MessageWrite.draft c.args.writer.now)).bytes ≡ 0 = ap length c.requires.empty in
    let refused : unknown_refusal (g.W.MessageWrite.draft c.args.writer.now).limit c.args.count ≡ Some c.in_err-end_of_add.field-0.0 =
    no_room_first _ _ _ _ none few c.in_err-end_of_add.ensures.cause in
    search rules
